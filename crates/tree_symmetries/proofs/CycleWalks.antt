-- The symmetries of the trees along a cycle.
use mathlib.Core.Path.{◌≡◌, ap₂, sym, ◌∙◌}
use mathlib.Core.List.{[], ◌∷◌, ◌++◌}
use Prim.Native.Nat.{ℕ, ◌+◌, ◌*◌, ◌≤◌}
use native.Mathlib.Omega.{arith}
use Rattle.patterns.specs.Tree.{Tree, size}
use Rattle.patterns.specs.Component.{Component, points}
use Rattle.patterns.proofs.Trees.{points-append}
use Rattle.counting_theory.specs.Symmetries.{product, tree_symmetries}
use Rattle.counting_theory.proofs.Arrangements.{product-snoc}
use Rattle.counting_theory.proofs.SmallSymmetries.{most, small-trees}

-- the trees before the place have n symmetries
abbrev pub Multiplied : ℕ → Component → Component → Type 0
Multiplied n ahead rest = n ≡ product tree_symmetries ahead

module _ (ahead : Component) (t : Tree) {n own : ℕ} (before : n ≡ product tree_symmetries ahead) (inner : own ≡ tree_symmetries t) where
  pub multiplied : n * own ≡ product tree_symmetries (ahead ++ (t ∷ []))
  multiplied = ap₂ ◌*◌ before inner ∙ sym (product-snoc tree_symmetries ahead t)

  pub multiplied-small : points ahead + size t ≤ 15 → n * own ≤ most
  multiplied-small h = rw multiplied (small-trees (ahead ++ (t ∷ [])) (omega (arith, points-append ahead (t ∷ []))))
