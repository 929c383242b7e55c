-- Reading numbers: whatever is read has exactly the numbers that it was read from.
use mathlib.Core.Path.{◌≡◌, refl, ap, ap₂, sym, ◌∙◌}
use mathlib.Core.Bool.{◌||◌}
use mathlib.Core.List.{List, [], ◌∷◌, ◌++◌, append_assoc}
use Prim.Native.Nat.{ℕ, zero, suc, ◌+◌, ◌-◌, ◌≤◌, ◌<◌}
use native.Mathlib.Omega.{arith}
use lib.Dec.{ltb, eqb}
use lib.ListN.{length, drop}
use lib.Seq.{drop-drop}
use borrow.Author.Tests.{ltb-false, eqb-true, eqb-false}
use Rattle.lists.specs.Select.{gather, total}
use Rattle.lists.proofs.Tests.{choose-case}
use Rattle.patterns.specs.Tree.{Tree, size, code, graft}
use Rattle.patterns.specs.Component.{Component, points, flat}
use Rattle.patterns.specs.System.{System, weight}
use Rattle.patterns.specs.Written.{component_numbers}
use Rattle.patterns.specs.Reading.{done, read_tree, read_branches, read_trees, read_components}
use Rattle.patterns.proofs.Trees.{code-branches, branches-graft, size-graft}
use Rattle.form_theory.specs.ReadComponent.{read_component}
use Rattle.form_theory.proofs.Results.{Good, good-then, good-mapped, good-weaken, good-done, or-false}

-- two stretches, one after the other
joined : (a b s : List ℕ) (m n : ℕ) → s ≡ a ++ drop m s → drop m s ≡ b ++ drop n (drop m s) → s ≡ (a ++ b) ++ drop (m + n) s
joined a b s m n p q = p ∙ ap (a ++◌) (q ∙ ap (b ++◌) (drop-drop n m s)) ∙ sym (append_assoc a b (drop (m + n) s))

-- what a tree, branches, k trees, a component or m components read from s have in common with s
abbrev pub TreeOf : ℕ → List ℕ → Tree → Type 0
TreeOf limit s t = (s ≡ code t ++ drop (size t) s) × (size t ≤ limit)

abbrev pub BranchesOf : ℕ → List ℕ → List Tree → Type 0
BranchesOf left s bs = (s ≡ gather code bs ++ drop (total size bs) s) × (total size bs ≡ left)

abbrev pub TreesOf : ℕ → ℕ → List ℕ → Component → Type 0
TreesOf k left s c = (s ≡ flat c ++ drop (points c) s) × (length c ≡ k) × (points c ≤ left)

abbrev pub ComponentOf : ℕ → List ℕ → Component → Type 0
ComponentOf left s c = (s ≡ component_numbers c ++ drop (suc (points c)) s) × (0 < length c) × (points c ≤ left)

abbrev pub ComponentsOf : ℕ → ℕ → List ℕ → System → Type 0
ComponentsOf m left s S = (s ≡ gather component_numbers S ++ drop (length S + weight S) s) × (length S ≡ m) × (weight S ≡ left)

code-graft : (bs : List Tree) → code (graft bs) ≡ suc (total size bs) ∷ gather code bs
code-graft bs = code-branches (graft bs) ∙ ap₂ (λ n l. n ∷ gather code l) (size-graft bs) (branches-graft bs)

mutual
  unfolding read_tree

  pub tree-good : (f limit : ℕ) (s : List ℕ) → Good (TreeOf limit s) (read_tree f limit s)
  tree-good zero limit s = tt
  tree-good (suc f) limit [] = tt
  tree-good (suc f) limit (x ∷ s) =
      choose-case (Good (TreeOf limit (x ∷ s))) (eqb x 0 || ltb limit x) (λ e. tt) (λ e.
      let o = or-false (eqb x 0) (ltb limit x) e in
      good-mapped (BranchesOf (x - 1) s) (TreeOf limit (x ∷ s)) (read_branches f (x - 1) s) graft (branches-good f (x - 1) s) (λ bs q.
      let z = size-graft bs in
      let w : x ≡ suc (total size bs) = omega (arith, eqb-false x 0 o.0) in
      (ap₂ ◌∷◌ w q.0 ∙ ap₂ (λ a n. a ++ drop n (x ∷ s)) (sym (code-graft bs)) (sym z), omega (arith, ltb-false limit x o.1))))

  pub branches-good : (f left : ℕ) (s : List ℕ) → Good (BranchesOf left s) (read_branches f left s)
  branches-good zero left s = tt
  branches-good (suc f) left s =
      choose-case (Good (BranchesOf left s)) (eqb left 0) (λ e. (refl, sym (eqb-true left 0 e))) (λ e.
      good-then (TreeOf left s) (BranchesOf left s) (read_tree f left s) _ (tree-good f left s) (λ t q.
      good-mapped (BranchesOf (left - size t) (drop (size t) s)) (BranchesOf left s) (read_branches f (left - size t) (drop (size t) s)) (t ∷◌)
      (branches-good f (left - size t) (drop (size t) s)) (λ bs r.
      (joined (code t) (gather code bs) s (size t) (total size bs) q.0 r.0, omega arith))))

pub trees-good : (k left : ℕ) (s : List ℕ) → Good (TreesOf k left s) (read_trees k left s)
unfolding read_trees
trees-good zero left s = (refl, refl, omega arith)
trees-good (suc k) left s =
    good-then (TreeOf left s) (TreesOf (suc k) left s) (read_tree (suc (left + left)) left s) _ (tree-good (suc (left + left)) left s) (λ t q.
    good-mapped (TreesOf k (left - size t) (drop (size t) s)) (TreesOf (suc k) left s) (read_trees k (left - size t) (drop (size t) s)) (t ∷◌)
    (trees-good k (left - size t) (drop (size t) s)) (λ c r.
    (joined (code t) (flat c) s (size t) (points c) q.0 r.0, ap suc r.1, omega arith)))

pub component-good : (left : ℕ) (s : List ℕ) → Good (ComponentOf left s) (read_component left s)
unfolding read_component
component-good left [] = tt
component-good left (k ∷ s) =
    choose-case (Good (ComponentOf left (k ∷ s))) (eqb k 0 || ltb left k) (λ e. tt) (λ e.
    let o = or-false (eqb k 0) (ltb left k) e in
    let p = eqb-false k 0 o.0 in
    good-weaken (TreesOf k left s) (ComponentOf left (k ∷ s)) (read_trees k left s) (trees-good k left s)
    (λ c q. (ap₂ ◌∷◌ (sym q.1) q.0, omega (arith, q.1), q.2)))

pub components-good : (m left : ℕ) (s : List ℕ) → Good (ComponentsOf m left s) (read_components m left s)
unfolding read_components
components-good zero left s = choose-case (Good (ComponentsOf 0 left s)) (eqb left 0) (λ e. (refl, refl, sym (eqb-true left 0 e))) (λ e. tt)
components-good (suc m) left [] = tt
components-good (suc m) left (k ∷ s) =
    choose-case (Good (ComponentsOf (suc m) left (k ∷ s))) (eqb k 0 || ltb left k) (λ e. tt) (λ e.
    good-then (TreesOf k left s) (ComponentsOf (suc m) left (k ∷ s)) (read_trees k left s) _ (trees-good k left s) (λ c q.
    good-mapped (ComponentsOf m (left - points c) (drop (points c) s)) (ComponentsOf (suc m) left (k ∷ s))
    (read_components m (left - points c) (drop (points c) s)) (c ∷◌) (components-good m (left - points c) (drop (points c) s)) (λ S r.
    let n : length (c ∷ S) + weight (c ∷ S) ≡ suc (points c + (length S + weight S)) = omega arith in
    (rw n (ap₂ ◌∷◌ (sym q.1) (joined (flat c) (gather component_numbers S) s (points c) (length S + weight S) q.0 r.0)), ap suc r.1, omega arith))))

-- What is read has exactly the numbers that it was read from.
pub tree-read : (f limit : ℕ) (s : List ℕ) (t : Tree) → read_tree f limit s ≡ done t → (s ≡ code t ++ drop (size t) s) × (size t ≤ limit)
tree-read f limit s t e = good-done (TreeOf limit s) (read_tree f limit s) t e (tree-good f limit s)

pub components-read : (m left : ℕ) (s : List ℕ) (S : System) → read_components m left s ≡ done S
    → (s ≡ gather component_numbers S ++ drop (length S + weight S) s) × (length S ≡ m) × (weight S ≡ left)
components-read m left s S e = good-done (ComponentsOf m left s) (read_components m left s) S e (components-good m left s)
