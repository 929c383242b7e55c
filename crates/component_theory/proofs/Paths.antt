-- Generation order by paths: the path of a component is the list of the keys on the way from the cycle down to it, and components of equal numbers of
-- points are listed in the alternating order of their paths.
use mathlib.Core.Path.{◌≡◌, refl, ap, ap₂, sym, ◌∙◌}
use mathlib.Core.Bool.{true, not}
use mathlib.Core.List.{[], ◌∷◌, ◌++◌}
use Prim.Native.Nat.{Ordering}
use Prim.Native.Nat.{ℕ, zero, suc, ◌-◌, compare}
use native.Mathlib.Omega.{arith}
use lib.ListN.{length, length-replicate, length-append}
use Rattle.lists.specs.Order.{then, lex_by}
use Rattle.lists.proofs.Comparison.{Lawful, by_order, compare-lawful, then-is-eq, eq-of-compare, compare_self}
use Rattle.lists.proofs.Lex.{lex_by-lawful}
use Rattle.lists.proofs.Places.{place-injective}
use Rattle.lists.proofs.Rising.{Rising}
use Rattle.patterns.specs.Tree.{point}
use Rattle.patterns.specs.Component.{Component, points, valid_component}
use Rattle.patterns.specs.Generation.{has_parent, parent, candidates, is_child, children, cycle, generation}
use Rattle.patterns.specs.System.{generation_place, compare_generated}
use Rattle.component_theory.proofs.Lemma8.{parent-points, parent-length}
use Rattle.component_theory.proofs.Children.{component-decides, children-parent}
use Rattle.component_theory.proofs.Generation.{cycle-points, length-points, generation-is-walk, generation-sound, generation-complete}
use Rattle.lists.proofs.RisingPlaces.{once-keep-rises, rising-change, rising-places}
use Rattle.component_theory.specs.Path.{key, path_of, path}
use Rattle.component_theory.proofs.Alternating.{Keyed, compare_alternating, walk-rises}

-- a component's path is its parent's with the component's key after it
pub parent-path : (c : Component) → has_parent c ≡ true → path c ≡ path (parent c) ++ (key c ∷ [])
unfolding path
parent-path c t =
    let h : points c - length c ≡ suc (points (parent c) - length (parent c)) = omega (arith, parent-points c, parent-length c t, length-points (parent c)) in
    ap (λ k. path_of k c) h

pub cycle-path : (n : ℕ) → path (cycle n) ≡ []
unfolding path
cycle-path n =
    let h : points (cycle n) - length (cycle n) ≡ 0 = omega (arith, cycle-points n, length-replicate n point) in
    ap (λ k. path_of k (cycle n)) h

path-of-length : (k : ℕ) (c : Component) → length (path_of k c) ≡ k
unfolding path_of
path-of-length zero c = refl
path-of-length (suc k) c = omega (arith, length-append (path_of k (parent c)) (key c ∷ []), path-of-length k (parent c))

-- a path is as long as the component is deep
pub path-length : (c : Component) → length (path c) ≡ points c - length c
unfolding path
path-length c = path-of-length (points c - length c) c

-- the keys of the children rise
pub keys_rise : (c : Component) → Rising (λ x y. compare (key x) (key y)) (children c)
unfolding children
keys_rise c =
    rising-change (once-keep-rises component-decides (is_child c) (candidates c))
    (λ x y i j e. rw ((children-parent c x i).2, (children-parent c y j).2) e)

components-keyed : Keyed children path key
components-keyed = record {
  kid_path = λ c d i. let r = children-parent c d i in parent-path d r.1 ∙ ap (λ p. path p ++ (key d ∷ [])) r.2;
  keys_rise = keys_rise;
}

-- the generation list rises by the alternating order of paths
pub generation-rises : (n : ℕ) → Rising (λ c d. compare_alternating (path c) (path d)) (generation n)
generation-rises n = rw (generation-is-walk n) (walk-rises components-keyed n true (cycle n) (rw (cycle-path n)))

alternating-lawful : Lawful compare_alternating
alternating-lawful = lex_by-lawful compare-lawful not true

-- components of equal numbers of points stand in the order of their paths
pub generation-order : (c d : Component) → valid_component c ≡ true → valid_component d ≡ true → points c ≡ points d
    → compare (generation_place c) (generation_place d) ≡ lex_by compare not true (path c) (path d)
unfolding generation_place
generation-order c d v u e =
    rw (sym e)
    (rising-places component-decides
    (λ x. alternating-lawful.self (path x))
    (λ x y. alternating-lawful.turned (path x) (path y))
    (generation-rises (points c)) (generation-complete c v) (rw (sym e) at (generation-complete d u)))

-- valid components that compare equal are equal
pub generated-equal : (c d : Component) → valid_component c ≡ true → valid_component d ≡ true → compare_generated c d ≡ Ordering.eq → c ≡ d
unfolding compare_generated generation_place
generated-equal c d v u e =
    let r = then-is-eq (compare (points c) (points d)) (compare (generation_place c) (generation_place d)) e in
    let p = eq-of-compare (points c) (points d) r.0 in
    let q = eq-of-compare (generation_place c) (generation_place d) r.1 in
    place-injective component-decides (generation-complete c v) (rw (sym p) at (generation-complete d u)) (rw (sym p) at q)

-- Definition 14's order is: by number of points, and then by the alternating order of paths
pub generated-paths : (c d : Component) → valid_component c ≡ true → valid_component d ≡ true
    → compare_generated c d ≡ then (compare (points c) (points d)) (lex_by compare not true (path c) (path d))
unfolding compare_generated
generated-paths c d v u =
    by_order (compare (points c) (points d))
    (λ e. rw e)
    (λ e. rw e (generation-order c d v u (eq-of-compare (points c) (points d) e)))
    (λ e. rw e)

-- the generation list rises by Definition 14's order
pub generated-rises : (n : ℕ) → Rising compare_generated (generation n)
generated-rises n =
    rising-change (generation-rises n)
    (λ x y i j e.
    let p = generation-sound n x i in
    let q = generation-sound n y j in
    generated-paths x y p.0 q.0 ∙ rw (p.1, q.1, compare_self n) e)

-- a component compares equal to itself
pub generated-self : (c : Component) → compare_generated c c ≡ Ordering.eq
unfolding compare_generated
generated-self c = ap₂ then (compare_self (points c)) (compare_self (generation_place c))
