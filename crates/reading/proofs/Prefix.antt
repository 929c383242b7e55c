-- The readers look at few numbers: reading the first of them equals reading all.
use mathlib.Core.Path.{◌≡◌, refl, ap, ◌∙◌}
use mathlib.Core.Bool.{Bool, true, false, cond, ◌||◌}
use mathlib.Core.List.{List, [], ◌∷◌}
use Prim.Native.Nat.{ℕ, zero, suc, ◌+◌, ◌-◌, ◌≤◌, ◌<◌}
use native.Mathlib.Omega.{arith}
use lib.Dec.{ltb, eqb}
use lib.ListN.{take, drop}
use borrow.Author.Tests.{ltb-false, eqb-false}
use Rattle.lists.proofs.Places.{drop-take}
use Rattle.patterns.specs.declared.Refusal.TheVariants.{Sizes}
use Rattle.patterns.specs.Tree.{size, graft}
use Rattle.patterns.specs.Component.{points}
use Rattle.patterns.specs.Reading.{Result, done, fault, and_then, mapped, read_tree, read_branches, read_trees, read_components}
use Rattle.form_theory.proofs.Results.{good-done, or-false}
use Rattle.form_theory.proofs.ReadFrom.{TreeOf, TreesOf, tree-good, trees-good}

-- what stands behind a fault, or in the arm that is not chosen, does not matter
pub same-else : {A : Type 0} (b : Bool) (x : A) {y z : A} → (b ≡ false → y ≡ z) → cond b x y ≡ cond b x z
same-else true x f = refl
same-else false x f = f refl

pub same_then : {A B : Type 0} (r : Result A) {f g : A → Result B} → ((x : A) → r ≡ done x → f x ≡ g x) → and_then r f ≡ and_then r g
same_then (done x) h = h x refl
same_then (fault c) h = refl

mutual
  unfolding read_tree

  -- a tree, from no more numbers than it may have points, and at least one
  pub tree-take : (f limit j : ℕ) (s : List ℕ) → limit ≤ j → 0 < j → read_tree f limit (take j s) ≡ read_tree f limit s
  tree-take zero limit j s h p = refl
  tree-take (suc f) limit zero s h p = absurd (omega arith)
  tree-take (suc f) limit (suc j) [] h p = refl
  tree-take (suc f) limit (suc j) (x ∷ s) h p =
      same-else (eqb x 0 || ltb limit x) (fault Sizes) (λ e.
      let o = or-false (eqb x 0) (ltb limit x) e in
      ap (mapped graft) (branches-take f (x - 1) j s (omega (arith, ltb-false limit x o.1))))

  pub branches-take : (f left j : ℕ) (s : List ℕ) → left ≤ j → read_branches f left (take j s) ≡ read_branches f left s
  branches-take zero left j s h = refl
  branches-take (suc f) left j s h =
      same-else (eqb left 0) (done []) (λ e.
      ap (λ r. and_then r (λ t. mapped (t ∷◌) (read_branches f (left - size t) (drop (size t) (take j s))))) (tree-take f left j s h (omega (arith, eqb-false left 0 e)))
      ∙ same_then (read_tree f left s) (λ t e. let q = good-done (TreeOf left s) (read_tree f left s) t e (tree-good f left s) in
      ap (mapped (t ∷◌)) (ap (read_branches f (left - size t)) (drop-take (size t) j s) ∙ branches-take f (left - size t) (j - size t) (drop (size t) s) (omega arith))))

-- k trees, from one number more than there are points left: the number of a tree for which no point is left is looked at too
pub trees-take : (k left j : ℕ) (s : List ℕ) → left < j → read_trees k left (take j s) ≡ read_trees k left s
unfolding read_trees
trees-take zero left j s h = refl
trees-take (suc k) left j s h =
    ap (λ r. and_then r (λ t. mapped (t ∷◌) (read_trees k (left - size t) (drop (size t) (take j s))))) (tree-take (suc (left + left)) left j s (omega arith) (omega arith))
    ∙ same_then (read_tree (suc (left + left)) left s) (λ t e.
    let q = good-done (TreeOf left s) (read_tree (suc (left + left)) left s) t e (tree-good (suc (left + left)) left s) in
    ap (mapped (t ∷◌)) (ap (read_trees k (left - size t)) (drop-take (size t) j s) ∙ trees-take k (left - size t) (j - size t) (drop (size t) s) (omega (arith, q.1))))

-- m components, from m numbers and one more than there are points left
pub components-take : (m left j : ℕ) (s : List ℕ) → m + left < j → read_components m left (take j s) ≡ read_components m left s
unfolding read_components
components-take zero left j s h = refl
components-take (suc m) left zero s h = absurd (omega arith)
components-take (suc m) left (suc j) [] h = refl
components-take (suc m) left (suc j) (k ∷ s) h =
    same-else (eqb k 0 || ltb left k) (fault Sizes) (λ e.
    ap (λ r. and_then r (λ c. mapped (c ∷◌) (read_components m (left - points c) (drop (points c) (take j s))))) (trees-take k left j s (omega arith))
    ∙ same_then (read_trees k left s) (λ c r. let q = good-done (TreesOf k left s) (read_trees k left s) c r (trees-good k left s) in
    ap (mapped (c ∷◌)) (ap (read_components m (left - points c)) (drop-take (points c) j s) ∙ components-take m (left - points c) (j - points c) (drop (points c) s) (omega (arith, q.2)))))
