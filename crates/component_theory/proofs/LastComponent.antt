-- The last component of generation order: of a cycle of at least two points the last child, which merges the last two points.
use mathlib.Core.Path.{◌≡◌, refl, ap, sym, ◌∙◌}
use mathlib.Core.Bool.{true, false}
use mathlib.Core.List.{[], ◌∷◌, ◌++◌, reverse, append-nil}
use mathlib.Core.Option.{some}
use Prim.Native.Nat.{ℕ, zero, suc, ◌+◌, ◌-◌, ◌≤◌, ◌<◌}
use native.Mathlib.Omega.{arith}
use lib.ListN.{length, replicate, length-append, length-replicate}
use Rattle.lists.specs.Order.{lex, at_most}
use Rattle.lists.specs.Select.{each, gather, first}
use Rattle.lists.proofs.Tests.{either, and-true, each-true, each_append}
use Rattle.lists.proofs.Comparison.{eq-at_most, at_most-self}
use Rattle.lists.proofs.Lex.{lex-lawful}
use Rattle.lists.proofs.Members.{of-replicate}
use Rattle.lists.proofs.Permute.{total-append}
use Rattle.lists.proofs.Follow.{first_some, otherwise}
use Rattle.patterns.specs.Tree.{Tree, point, merge, size, compare_tree, valid_tree, last_at_most}
use Rattle.patterns.specs.Component.{Component, points, valid_component}
use Rattle.patterns.specs.Generation.{walk, cycle, generation}
use Rattle.patterns.proofs.Trees.{compare_tree-lawful, point-least}
use Rattle.patterns.proofs.Rotations.{cuts}
use Rattle.component_theory.specs.Successor.{kids, first_child, last_component}
use Rattle.component_theory.specs.ChildPlaces.{child_at, child_before}
use Rattle.component_theory.proofs.Unmerging.{Least, least_first, replicate-beginning}
use Rattle.component_theory.proofs.Lemma8.{least-valid, nonempty-append}
use Rattle.component_theory.proofs.Keys.{is_least, valid-if-least}
use Rattle.component_theory.proofs.Generation.{cycle-valid, cycle-points}
use Rattle.component_theory.proofs.ChildPlaces.{last_child-place, child_before-step, child_before-skip, length-candidates, child_at-left, child_at-points}
use Rattle.component_theory.proofs.Successor.{walk-in}

-- points, and then one tree
abbrev after_points : ℕ → Tree → Component
after_points m t = replicate m point ++ (t ∷ [])

-- no rotation of points and then one tree is less
after-points-least : (m : ℕ) (t : Tree) → Least compare_tree (after_points m t)
after-points-least m t = record {
  no_less = λ a b q. either (cuts (replicate m point) (t ∷ []) a b q)
      (λ s. from_end s.0 b s.2 a s.1 q)
      (λ s. let p = replicate-beginning point m a s.0 s.1 in rw (q, p) (least_first compare_tree-lawful point point-least (length a) b));
}
  where
    from_end : (s b : Component) → (t ∷ []) ≡ s ++ b → (a : Component) → a ≡ replicate m point ++ s → after_points m t ≡ a ++ b
        → at_most (lex compare_tree) (after_points m t) (b ++ a) ≡ true
    from_end [] b e a f q = rw (f, append-nil (replicate m point), ← e) (least_first compare_tree-lawful point point-least m (t ∷ []))
    from_end (x ∷ s) [] e a f q = eq-at_most (lex-lawful compare_tree-lawful) (q ∙ append-nil a)
    from_end (x ∷ s) (y ∷ b) e a f q = absurd (omega (arith, ap length e, length-append s (y ∷ b)))

-- two points merged behind m others are a valid component
pair-valid : (m : ℕ) → valid_component (after_points m (merge point point)) ≡ true
unfolding valid_tree last_at_most
pair-valid m =
    let d = after_points m (merge point point) in
    least-valid d (nonempty-append (replicate m point) (merge point point) [])
    (each_append valid_tree (replicate m point) (merge point point ∷ [])
    ∙ rw (each-true valid_tree (replicate m point) (λ t i. ap valid_tree (of-replicate m i))))
    (after-points-least m (merge point point))

pair-least : (m : ℕ) → is_least (after_points m (merge point point)) ≡ true
pair-least m =
    let d = after_points m (merge point point) in
    (and-true (each valid_tree d) (is_least d) (sym (valid-if-least d (nonempty-append (replicate m point) (merge point point) [])) ∙ pair-valid m)).1

module _ (m : ℕ) where
  -- a cycle of m + 2 points
  abbrev long : Component
  long = cycle (suc (suc m))

  count : length long ≡ suc (suc m)
  count = length-replicate (suc (suc m)) point

  -- its right merges are left merges too
  no-rights : (i : ℕ) → suc m ≤ i → i < suc m + suc m → child_at long i ≡ []
  no-rights i h k =
      let z : suc m + (i - suc m) ≡ i = omega arith in
      ap (child_at long) (sym z)
      ∙ child_at-points long (cycle-valid (suc m)) (suc m) count (suc (suc m)) (i - suc m) [] (sym (append-nil long)) (omega arith)

  last-pair : (k : ℕ) → replicate (suc (suc k)) point ≡ replicate k point ++ (point ∷ point ∷ [])
  last-pair zero = refl
  last-pair (suc k) = ap (λ l. point ∷ l) (last-pair k)

  -- its last left merge is a child
  last-left : child_at long m ≡ after_points m (merge point point) ∷ []
  last-left =
      child_at-left long (cycle-valid (suc m)) (suc m) count m point point [] (last-pair m)
      ∙ rw (at_most-self compare_tree-lawful point, pair-least m)

  cycle-last_child : first_child false long ≡ some (after_points m (merge point point))
  cycle-last_child =
      last_child-place long
      ∙ ap (child_before long) (length-candidates long (suc m) count)
      ∙ child_before-skip long (suc m) (suc m) no-rights
      ∙ child_before-step long m
      ∙ ap (λ l. otherwise (first l) (child_before long m)) last-left

-- the last of the generation list
pub generation-last : (s : ℕ) → 0 < s → first (reverse (generation s)) ≡ some (last_component s)
unfolding last_component first_child generation
generation-last zero h = absurd (omega arith)
generation-last (suc zero) h = refl
generation-last (suc (suc m)) h =
    let e = first_some (kids false (long m)) (cycle-last_child m) in
    ap first (sym (walk-in false (suc (suc m))))
    ∙ ap (λ l. first (gather (walk (kids false) (suc m) true) l ++ (long m ∷ []))) e.1

pub last_component-points : (s : ℕ) → points (last_component s) ≡ s
unfolding last_component
last_component-points zero = refl
last_component-points (suc zero) = refl
last_component-points (suc (suc m)) = omega (arith, total-append size (replicate m point) (merge point point ∷ []), cycle-points m)
