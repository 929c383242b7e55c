-- The components of a canonical system stand in order, and sorting a permutation of them gives the system.
use mathlib.Core.Path.{◌≡◌, refl, ap, ap₂, sym, ◌∙◌}
use mathlib.Core.List.{List, [], ◌∷◌, map}
use mathlib.Core.Bool.{true, ◌&&◌}
use Prim.Native.Nat.{ℕ, Ordering, compare}
use lib.Dec.{is_le}
use Rattle.lists.specs.Order.{then, at_most}
use Rattle.lists.specs.Sort.{sort}
use Rattle.lists.proofs.Tests.{and-true, each_member}
use Rattle.lists.proofs.Comparison.{Lawful, compare-lawful, keys-lawful}
use Rattle.lists.proofs.Permute.{Perm, perm-sym, perm-map, perm-each}
use Rattle.lists.proofs.Sorting.{Sorted, sorted_nil, sorted-one, sorted_before, sort-map, sort-is, sort-member}
use Rattle.patterns.specs.Component.{Component, points, valid_component}
use Rattle.patterns.specs.System.{System, generation_place, compare_generated, is_in_order, canonical}
use Rattle.component_theory.proofs.Paths.{generated-equal}
use Rattle.component_theory.proofs.CanonicalComponents.{canonical-valid}
use Rattle.lists.proofs.Gathering.{map_injective}

-- the two numbers by which components are compared
abbrev pub Key : Type 0
Key = ℕ × ℕ

abbrev pub key : Component → Key
key c = (points c, generation_place c)

abbrev pub compare_key : Key → Key → Ordering
compare_key a b = then (compare a.0 b.0) (compare a.1 b.1)

pub compare_key-lawful : Lawful compare_key
compare_key-lawful = keys-lawful (λ a. a.0) (λ a. a.1) compare-lawful compare-lawful (λ a b p q. ap₂ (λ x y. (x, y)) p q)

pub compare_generated-key : (c d : Component) → compare_key (key c) (key d) ≡ compare_generated c d
unfolding compare_generated
compare_generated-key c d = refl

-- valid components are told apart by their keys
pub key-injective : (c d : Component) → valid_component c ≡ true → valid_component d ≡ true → key c ≡ key d → c ≡ d
key-injective c d v w e =
    generated-equal c d v w (sym (compare_generated-key c d) ∙ ap (compare_key (key c)) (sym e) ∙ compare_key-lawful.self (key c))

is_in_order-sorted : (p : Component) (S : System) → is_in_order p S ≡ true → Sorted compare_key (map key (p ∷ S))
unfolding is_in_order
is_in_order-sorted p [] e = sorted-one (key p)
is_in_order-sorted p (c ∷ S) e =
    let r = and-true (valid_component c && at_most compare_generated p c) (is_in_order c S) e in
    let s = and-true (valid_component c) (at_most compare_generated p c) r.0 in
    sorted_before compare_key-lawful (ap is_le (compare_generated-key p c) ∙ s.1) (is_in_order-sorted c S r.1)

-- the components of a canonical system stand in order
pub canonical-sorted : (S : System) → canonical S ≡ true → Sorted compare_key (map key S)
unfolding canonical
canonical-sorted [] e = sorted_nil
canonical-sorted (c ∷ S) e =
    let r = and-true (valid_component c && at_most compare_generated [] c) (is_in_order c S) e in
    is_in_order-sorted c S r.1

-- sorting the components of a canonical system, in any order, gives the system
pub sort-canonical : {l : List Component} (S : System) → canonical S ≡ true → Perm l S → sort compare_generated l ≡ S
sort-canonical {l} S e p =
    let v = canonical-valid S e in
    let w = perm-each valid_component (perm-sym p) v in
    let keys : map key (sort compare_generated l) ≡ map key S =
    sym (sort-map compare_generated compare_key key l (λ c d i j. compare_generated-key c d))
    ∙ sort-is compare_key-lawful (canonical-sorted S e) (perm-map key p) in
    map_injective key (sort compare_generated l) S
    (λ c d i j. key-injective c d (each_member valid_component w (sort-member compare_generated l i)) (each_member valid_component v j)) keys
