-- How many isomorphisms a tree, a component and a system have to themselves, part by part. No promise of an entry cites these definitions: document 02, paper 7, defines
-- the number of tables with a code as a count of tables.
use Rattle.std.specs.Prelude.{cond, List, [], ◌∷◌}
use Prim.Native.Nat.{ℕ, zero, suc, ◌*◌, Ordering}
use Rattle.lists.specs.Order.{same}
use Rattle.lists.specs.Select.{total}
use Rattle.patterns.specs.Tree.{Tree, point, merge, branches, compare_tree}
use Rattle.patterns.specs.Component.{Component, compare_component, rotation_symmetry}
use Rattle.patterns.specs.System.{System}

-- 1 · 2 · .. · n
abbrev pub factorial : ℕ → ℕ
factorial zero = 1
factorial (suc n) = suc n * factorial n

-- the product of what g gives
abbrev pub product : {A : Type 0} → (A → ℕ) → List A → ℕ
product g [] = 1
product g (x ∷ l) = g x * product g l

-- how many entries of l equal x
abbrev pub copies : {A : Type 0} → (A → A → Ordering) → A → List A → ℕ
copies c x l = total (λ y. cond (same c x y) 1 0) l

-- the last branch u can take the place of any branch that equals it
unfoldable pub tree_symmetries : Tree → ℕ
unfolding compare_tree
tree_symmetries point = 1
tree_symmetries (merge t u) = (suc (copies compare_tree u (branches t)) * tree_symmetries u) * tree_symmetries t

unfoldable pub component_symmetries : Component → ℕ
unfolding rotation_symmetry tree_symmetries
component_symmetries c = rotation_symmetry c * product tree_symmetries c

-- the first component can take the place of any that equals it
unfoldable pub symmetries : System → ℕ
unfolding component_symmetries compare_component
symmetries [] = 1
symmetries (c ∷ S) = (suc (copies compare_component c S) * component_symmetries c) * symmetries S
