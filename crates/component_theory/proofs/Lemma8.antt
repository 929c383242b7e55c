-- Document 004, Lemma 8: the parent of a valid component is valid. A component that has a parent is split at its leftmost tree of more than one
-- point: c = i points, then `merge t u`, then r. Its parent is i points, then t and u in order, then r.
use mathlib.Core.Path.{◌≡◌, refl, ap, sym, ◌∙◌}
use mathlib.Core.Bool.{true, cond, true≢false}
use mathlib.Core.List.{List, [], ◌∷◌, ◌++◌}
use Prim.Native.Nat.{ℕ, zero, suc, ◌+◌}
use native.Mathlib.Omega.{arith}
use lib.ListN.{length, replicate}
use Rattle.lists.specs.Order.{at_most}
use Rattle.lists.specs.Select.{each}
use Rattle.lists.proofs.Tests.{by-test, and-true, true-and, each_append, each-cons, each-head, each_tail}
use Rattle.lists.proofs.Comparison.{at_most-turned}
use Rattle.patterns.specs.Tree.{Tree, point, merge, compare_tree, valid_tree}
use Rattle.patterns.specs.Component.{Component, points, compare_component, nonempty, valid_component}
use Rattle.patterns.specs.Generation.{has_parent, parent}
use Rattle.component_theory.proofs.Unmerging.{Least, unmerged-least}
use Rattle.patterns.proofs.Trees.{compare_tree-lawful, point-least, less-merge-left, less-merge-right, valid-merge}
use Rattle.patterns.proofs.Rotations.{valid-parts, valid-from}

-- two trees in order, the lesser first, in front of r
abbrev pub ordered : Tree → Tree → Component → Component
ordered t u r = cond (at_most compare_tree t u) (t ∷ u ∷ r) (u ∷ t ∷ r)

-- c begins with `leading` points, and then comes `merge left right`
pub record Lead (c : Component) : Type 0 where
  pub leading : ℕ
  pub left : Tree
  pub right : Tree
  pub rest : Component
  pub split : c ≡ replicate leading point ++ (merge left right ∷ rest)

-- every component that has a parent is so split
pub lead : (c : Component) → has_parent c ≡ true → Lead c
lead [] e = absurd (true≢false (sym e))
lead (point ∷ c) e =
    let r = lead c e in
    record { leading = suc r.leading; left = r.left; right = r.right; rest = r.rest; split = ap (λ k. point ∷ k) r.split }
lead (merge t u ∷ c) e = record { leading = 0; left = t; right = u; rest = c; split = refl }

-- and the other way round
pub lead-has_parent : (i : ℕ) (t u : Tree) (r : Component) → has_parent (replicate i point ++ (merge t u ∷ r)) ≡ true
lead-has_parent zero t u r = refl
lead-has_parent (suc i) t u r = lead-has_parent i t u r

-- the parent of a component that is so split
pub parent-lead : (i : ℕ) (t u : Tree) (r : Component) → parent (replicate i point ++ (merge t u ∷ r)) ≡ replicate i point ++ ordered t u r
unfolding parent
parent-lead zero t u r = refl
parent-lead (suc i) t u r = ap (λ k. point ∷ k) (parent-lead i t u r)

-- a parent has one tree more
pub parent-length : (c : Component) → has_parent c ≡ true → length (parent c) ≡ suc (length c)
unfolding parent
parent-length [] e = absurd (true≢false (sym e))
parent-length (point ∷ c) e = ap suc (parent-length c e)
parent-length (merge t u ∷ c) e = by-test (at_most compare_tree t u) (λ h. rw h) (λ h. rw h)

-- a parent has as many points
pub parent-points : (c : Component) → points (parent c) ≡ points c
unfolding parent
parent-points [] = refl
parent-points (point ∷ c) = ap (λ k. 1 + k) (parent-points c)
parent-points (merge t u ∷ c) = by-test (at_most compare_tree t u) (λ h. rw h (omega arith)) (λ h. rw h (omega arith))

-- valid: every tree is, and no rotation is less
valid-least : (c : Component) → valid_component c ≡ true → Least compare_tree c
unfolding compare_component
valid-least c v = record { no_less = (valid-parts c v).2 }

pub least-valid : (c : Component) → nonempty c ≡ true → each valid_tree c ≡ true → Least compare_tree c → valid_component c ≡ true
unfolding compare_component
least-valid c n v g = valid-from c n v g.no_less

pub nonempty-append : {A : Type 0} (l : List A) (x : A) (m : List A) → nonempty (l ++ (x ∷ m)) ≡ true
nonempty-append [] x m = refl
nonempty-append (y ∷ l) x m = refl

module _ (i : ℕ) (t u : Tree) (r : Component) where
  split-valid : valid_component (replicate i point ++ (merge t u ∷ r)) ≡ true → valid_component (replicate i point ++ ordered t u r) ≡ true
  split-valid v =
      let P = replicate i point in
      let parts = valid-parts (P ++ (merge t u ∷ r)) v in
      let trees = and-true (each valid_tree P) (each valid_tree (merge t u ∷ r)) (sym (each_append valid_tree P (merge t u ∷ r)) ∙ parts.1) in
      let tu = valid-merge t u (each-head valid_tree (merge t u) r trees.1) in
      let tail = each_tail valid_tree (merge t u) r trees.1 in
      by-test (at_most compare_tree t u)
      (λ h. rw h (least-valid (P ++ (t ∷ u ∷ r)) (nonempty-append P t (u ∷ r))
      (each_append valid_tree P (t ∷ u ∷ r) ∙ true-and trees.0 (each-cons valid_tree (u ∷ r) tu.0 (each-cons valid_tree r tu.1 tail)))
      (unmerged-least compare_tree-lawful point point-least i (merge t u) t u r (less-merge-right t u) h (valid-least (P ++ (merge t u ∷ r)) v))))
      (λ h. rw h (least-valid (P ++ (u ∷ t ∷ r)) (nonempty-append P u (t ∷ r))
      (each_append valid_tree P (u ∷ t ∷ r) ∙ true-and trees.0 (each-cons valid_tree (t ∷ r) tu.1 (each-cons valid_tree r tu.0 tail)))
      (unmerged-least compare_tree-lawful point point-least i (merge t u) u t r (less-merge-left t u) (at_most-turned compare_tree-lawful t u h) (valid-least (P ++ (merge t u ∷ r)) v))))

-- Lemma 8: the parent of a valid component is valid
pub parent-valid : (c : Component) → valid_component c ≡ true → has_parent c ≡ true → valid_component (parent c) ≡ true
parent-valid c v e =
    let s = lead c e in
    let p : parent c ≡ replicate s.leading point ++ ordered s.left s.right s.rest =
    ap parent s.split ∙ parent-lead s.leading s.left s.right s.rest in
    ap valid_component p ∙ split-valid s.leading s.left s.right s.rest (sym (ap valid_component s.split) ∙ v)
