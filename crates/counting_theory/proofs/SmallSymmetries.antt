-- Of at most 15 points no number of symmetries exceeds 15!, nor does a factor of one: each fits into 64 bits.
use mathlib.Core.Path.{◌≡◌, refl, ◌∙◌, subst}
use mathlib.Core.Bool.{true}
use mathlib.Core.List.{[], ◌∷◌}
use Prim.Native.Nat.{ℕ, ◌*◌, ◌≤◌, ◌<◌}
use native.Mathlib.Nat.{one-mul, mul-one, le-mul_of_pos_right, le_trans}
use native.Mathlib.Omega.{arith}
use Rattle.patterns.specs.Tree.{Tree, size, branches}
use Rattle.patterns.specs.Component.{Component, points, valid_component}
use Rattle.patterns.specs.System.{System, weight, canonical}
use Rattle.patterns.specs.TableCount.{tables_with}
use Rattle.patterns.proofs.Trees.{size-branches}
use Rattle.patterns.proofs.Rotations.{points-positive}
use Rattle.system_theory.proofs.Canonical.{generated-fewer, is_in_order-from}
use Rattle.counting_theory.specs.Symmetries.{factorial, product, tree_symmetries, component_symmetries, symmetries}
use Rattle.counting_theory.proofs.SymmetryBounds.{factorial-le, tree-bound, product-bound}
use Rattle.counting_theory.proofs.CountedTables.{tables-symmetries, symmetries-positive, symmetries-bound}

-- 15!
abbrev pub most : ℕ
most = 1307674368000

pub small-factorial : (m : ℕ) → m ≤ 15 → factorial m ≤ most
small-factorial m h = factorial-le m 15 h

-- a factor beside one that is not 0
pub factor-small : {a b : ℕ} → 0 < b → a * b ≤ most → a ≤ most
factor-small {a} {b} h k = le_trans (le-mul_of_pos_right {m = b} a h) k

pub small-tree : (t : Tree) → size t ≤ 15 → tree_symmetries t ≤ most
small-tree t h = le_trans (tree-bound t) (small-factorial (points (branches t)) (omega (arith, size-branches t)))

pub small-trees : (c : Component) → points c ≤ 15 → product tree_symmetries c ≤ most
small-trees c h = le_trans (product-bound c) (small-factorial (points c) h)

pub small-system : (S : System) → canonical S ≡ true → weight S ≤ 15 → symmetries S ≤ most
small-system S e h = le_trans (symmetries-bound (weight S) S e refl) (small-factorial (weight S) h)

-- a valid component is a canonical system of its own
canonical-single : (c : Component) → valid_component c ≡ true → canonical (c ∷ []) ≡ true
unfolding canonical
canonical-single c v = is_in_order-from [] c [] v (rw (generated-fewer [] c (points-positive c v))) refl

pub small-component : (c : Component) → valid_component c ≡ true → points c ≤ 15 → component_symmetries c ≤ most
unfolding symmetries
small-component c v h =
    let one : (1 * component_symmetries c) * 1 ≡ component_symmetries c = mul-one (1 * component_symmetries c) ∙ one-mul (component_symmetries c) in
    subst (λ k. k ≤ most) one (small-system (c ∷ []) (canonical-single c v) (omega arith))

-- nor do the tables with a system
pub small-tables : (S : System) → canonical S ≡ true → weight S ≤ 15 → tables_with (weight S) S ≤ most
small-tables S e h =
    factor-small (symmetries-positive (weight S) S e refl) (rw (tables-symmetries (weight S) S e refl) (small-factorial (weight S) h))
