-- Sorting components by their numbers of points and their places in generation order gives a list in that order, and sorted valid components
-- are a canonical system.
use mathlib.Core.Path.{◌≡◌, refl, ap, sym, ◌∙◌}
use mathlib.Core.List.{List, [], ◌∷◌, map}
use mathlib.Core.Bool.{true}
use Prim.Native.Nat.{Ordering, compare}
use lib.Dec.{is_le}
use Rattle.lists.specs.Order.{then, at_most}
use Rattle.lists.specs.Sort.{sort}
use Rattle.lists.specs.Select.{each}
use Rattle.lists.proofs.Tests.{each-true, each-head, each_tail, each_member, true-and}
use Rattle.lists.proofs.Comparison.{compare-lt}
use Rattle.lists.proofs.Sorting.{Sorted, sorted_nil, sorted_cons, sorted_tail, sorted_head, sort_sorted, sort-map}
use Rattle.lists.proofs.Members.{in_head, in_map}
use Rattle.patterns.specs.Component.{Component, points, valid_component}
use Rattle.patterns.specs.System.{System, generation_place, compare_generated, is_in_order, canonical}
use Rattle.patterns.proofs.Rotations.{points-positive}
use Rattle.map_theory.proofs.Ordered.{key, compare_key, compare_key-lawful, compare_generated-key}

-- the image is sorted: so is the list, compared by its images
pub sorted-of-map : {A B : Type 0} (c : A → A → Ordering) (d : B → B → Ordering) (f : A → B) → ((x y : A) → d (f x) (f y) ≡ c x y)
    → (l : List A) → Sorted d (map f l) → Sorted c l
sorted-of-map c d f h [] s = sorted_nil
sorted-of-map c d f h (x ∷ l) s =
    sorted_cons
    (each-true (at_most c x) l (λ y m. ap is_le (sym (h x y)) ∙ sorted_head s (in_map f m)))
    (sorted-of-map c d f h l (sorted_tail s))

-- sorting by compare_generated gives a sorted list
pub sort-generated : (S : System) → Sorted compare_generated (sort compare_generated S)
sort-generated S =
    sorted-of-map compare_generated compare_key key compare_generated-key (sort compare_generated S)
    (rw (sort-map compare_generated compare_key key S (λ c d i j. compare_generated-key c d)) at (sort_sorted compare_key-lawful (map key S)))

sorted-is_in_order : (p : Component) (S : System) → each valid_component S ≡ true → Sorted compare_generated (p ∷ S) → is_in_order p S ≡ true
unfolding is_in_order
sorted-is_in_order p [] v s = refl
sorted-is_in_order p (c ∷ S) v s =
    true-and (true-and (each-head valid_component c S v) (sorted_head s in_head)) (sorted-is_in_order c S (each_tail valid_component c S v) (sorted_tail s))

-- valid components, sorted, are a canonical system
pub sorted-canonical : (S : System) → each valid_component S ≡ true → Sorted compare_generated S → canonical S ≡ true
unfolding canonical compare_generated
sorted-canonical S v s =
    sorted-is_in_order [] S v
    (sorted_cons
    (each-true (at_most compare_generated []) S
    (λ c m.
    let h = points-positive c (each_member valid_component v m) in
    ap (λ o. is_le (then o (compare (generation_place []) (generation_place c)))) (compare-lt 0 (points c) h)))
    s)
