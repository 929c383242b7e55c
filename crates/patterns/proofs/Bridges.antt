-- The definitions held against the papers' words: each statement says of a definition what its reader expects.
use mathlib.Core.Path.{◌≡◌, refl, ap, sym, ◌∙◌}
use mathlib.Core.Logic.{◌↔◌}
use mathlib.Core.Bool.{Bool, true, ◌&&◌}
use mathlib.Core.List.{List, ◌∷◌, ◌++◌}
use Prim.Native.Nat.{ℕ, ◌+◌, ◌<◌}
use native.Mathlib.Omega.{arith}
use lib.Dec.{eqb}
use borrow.Author.Tests.{eq-eqb, eqb-true}
use lib.ListN.{length}
use Rattle.lists.specs.Order.{at_most}
use Rattle.lists.specs.Select.{each, gather, range, times}
use Rattle.lists.proofs.Tests.{◌∈◌, and-true, true-and, each-true, each_member}
use Rattle.lists.proofs.Members.{in-range, of_range}
use Rattle.lists.proofs.Sorting.{Sorted}
use Rattle.patterns.specs.Tree.{Tree, point, merge, size, below, code, branches, compare_tree, valid_tree}
use Rattle.patterns.specs.Component.{Component, rotations, least_rotation, nonempty, compare_component, valid_component}
use Rattle.patterns.specs.Table.{image}
use Rattle.patterns.specs.Isomorphism.{Isomorphism, is_isomorphism}
use Rattle.patterns.proofs.Trees.{code-branches, merge-parts, valid-branches, branches-valid}
use Rattle.patterns.proofs.Rotations.{least_rotation-rotation, least_rotation-least, least_rotation-valid, valid-least_rotation}

-- Definition 1: a tree's code is its number of points and then the codes of its branches.
pub tree_code : (t : Tree) → code t ≡ size t ∷ gather code (branches t)
tree_code t = code-branches t

-- Definition 3: the code of a merge is the first code and then the second, the first number being the sum of both sizes.
pub merge-code : (t u : Tree) → code (merge t u) ≡ (size t + size u) ∷ (below t ++ code u)
merge-code t u = refl

-- Definition 7: a merge can be undone, since it determines both its parts,
pub unmerge-parts : (t u v w : Tree) → merge t u ≡ merge v w → (t ≡ v) × (u ≡ w)
unmerge-parts t u v w e = merge-parts e

-- and every tree of more than one point is a merge.
pub merge-of-larger : (t : Tree) → 1 < size t → (u : Tree) × (v : Tree) × (t ≡ merge u v)
merge-of-larger point h = absurd (omega arith)
merge-of-larger (merge u v) h = (u, v, refl)

-- Definition 1: a tree is valid exactly if its branches are valid and stand in nondecreasing order.
pub tree-valid : (t : Tree) → (valid_tree t ≡ true) ↔ ((each valid_tree (branches t) ≡ true) × Sorted compare_tree (branches t))
tree-valid t = (λ e. valid-branches t e, λ h. branches-valid t h.0 h.1)

-- Definition 2: the least rotation is a rotation, and no rotation is less.
pub least-rotation : (c : Component) → nonempty c ≡ true
    → (least_rotation c ∈ rotations c) × ((r : Component) → r ∈ rotations c → at_most compare_component (least_rotation c) r ≡ true)
least-rotation c e = (least_rotation-rotation c e, λ r m. least_rotation-least c m)

-- Definition 2: a list of valid trees, one at least, is a valid code exactly if it is its own least rotation.
pub component_valid : (c : Component) → nonempty c ≡ true → each valid_tree c ≡ true → (valid_component c ≡ true) ↔ (least_rotation c ≡ c)
component_valid c e f = (λ v. valid-least_rotation c v, λ q. ap valid_component (sym q) ∙ least_rotation-valid c e f)

-- The test for isomorphisms says true exactly of isomorphisms.
pub isomorphism-test : (n : ℕ) (f g r : List ℕ) → Isomorphism n f g r ↔ (is_isomorphism n f g r ≡ true)
unfolding is_isomorphism
isomorphism-test n f g r =
    let once : ℕ → Bool = λ x. eqb (times x r) 1 in
    let follows : ℕ → Bool = λ x. eqb (image r (image f x)) (image g (image r x)) in (
      λ h.
          true-and
          (true-and
          (eq-eqb (length r) n h.points)
          (each-true once (range 0 n) (λ x m. eq-eqb (times x r) 1 (h.once x (below-n m)))))
          (each-true follows (range 0 n) (λ x m. eq-eqb (image r (image f x)) (image g (image r x)) (h.follows x (below-n m)))),
      λ e.
          let a = and-true (eqb (length r) n && each once (range 0 n)) (each follows (range 0 n)) e in
          let b = and-true (eqb (length r) n) (each once (range 0 n)) a.0 in
          record {
            points = eqb-true (length r) n b.0;
            once = λ x h. eqb-true (times x r) 1 (each_member once b.1 (in-range 0 n (omega arith) (omega arith)));
            follows = λ x h. eqb-true (image r (image f x)) (image g (image r x)) (each_member follows a.1 (in-range 0 n (omega arith) (omega arith)));
          },
    )
  where
    below-n : {x : ℕ} → x ∈ range 0 n → x < n
    below-n m = let h = of_range 0 n m in omega arith
