-- What the functions that put trees and components in their places find and leave in lent slices: trees and, at the same places, labels.
use Rattle.std.specs.Prelude.{ℕ, ◌+◌, ◌-◌, ◌≤◌, ◌<◌, length, take, drop, true, cond, List, [], ◌∷◌, ◌++◌, map, ◌≡◌}
use Rattle.lists.specs.Order.{at_most}
use Rattle.lists.specs.Select.{each, gather}
use Rattle.lists.specs.Sort.{insert}
use Rattle.memory.specs.Memory.{Stands}
use Rattle.map_theory.specs.Plants.{Plant, shape, labels, compare_plant, shapes, compare_shapes, joined}
use Rattle.arrangement.specs.declared.Place.{Place}
use Rattle.patterns.specs.Component.{Component, points, flat, valid_component}
use Rattle.patterns.specs.System.{System, weight, compare_generated}
use Rattle.patterns.specs.Tree.{Tree, size, compare_tree}
use Rattle.written.specs.Putting.{placed}

-- the plants us stand from `start` to `end`, their trees in d and their labels in e, and all else is as it was
pub record Planted (us : List Plant) (start : ℕ) (d e : List ℕ) (end : ℕ) (trees labelled : List ℕ) : Type 0 where
  pub ends : end ≡ start + points (map shape us)
  pub trees_are : trees ≡ placed start (flat (map shape us)) d
  pub labels_are : labelled ≡ placed start (gather labels us) e

-- how many points the trees have that stand before the first one that t does not exceed
unfoldable pub points_before : Tree → Component → ℕ
unfolding compare_tree
points_before t [] = 0
points_before t (u ∷ us) =
    let later = size u + points_before t us in
    cond (at_most compare_tree t u) 0 later

-- trees stand from start to end, and something from there to next
pub record SiblingsStand (trees labelled : List ℕ) (start end next : ℕ) : Type 0 where
  pub siblings : Component
  pub stands : Stands (flat siblings) start trees
  pub ends : end ≡ start + points siblings
  pub after : end ≤ next
  pub fits : next ≤ length trees
  pub same : length labelled ≡ length trees

-- whatever plants us stood from start to end, and v behind them, v is inserted among us
pub record Inserts (start end next : ℕ) (trees₀ labelled₀ trees labelled : List ℕ) : Type 0 where
  pub inserts : (us : List Plant) (v : Plant) (d e : List ℕ) → next ≤ length d → next ≤ length e → end ≡ start + points (map shape us)
      → Planted (us ++ (v ∷ [])) start d e next trees₀ labelled₀ → Planted (insert compare_plant v us) start d e next trees labelled

-- the components that stand before the first one that c does not come after
unfoldable pub components_before : Component → System → System
unfolding compare_generated
components_before c [] = []
components_before c (d ∷ S) =
    let later = d ∷ components_before c S in
    cond (at_most compare_generated c d) [] later

-- a valid component, and a system of valid components with their sizes
pub record PlaceAsked (s sizes trees : List ℕ) : Type 0 where
  pub component : Component
  pub system : System
  pub component_is : s ≡ flat component
  pub component_valid : valid_component component ≡ true
  pub sizes_are : sizes ≡ map points system
  pub trees_are : trees ≡ gather flat system
  pub system_valid : each valid_component system ≡ true
  pub small : (length s ≤ 200) × (length trees ≤ 200)

-- how many components stand before the place of c, and how many points they have
pub record PlaceFound (c : Component) (S : System) (r : Place) : Type 0 where
  pub index_is : r.index ≡ length (components_before c S)
  pub at_is : r.at ≡ weight (components_before c S)

-- a system of valid components up to end, its sizes in the first m places, and a valid component from there to next; room for one size more
pub record InsertAsked (sizes : List ℕ) (m : ℕ) (trees labelled : List ℕ) (end next : ℕ) : Type 0 where
  pub system : System
  pub component : Component
  pub sizes_are : take m sizes ≡ map points system
  pub trees_are : take end trees ≡ gather flat system
  pub component_is : take (next - end) (drop end trees) ≡ flat component
  pub system_valid : each valid_component system ≡ true
  pub component_valid : valid_component component ≡ true
  pub count : m < length sizes
  pub after : end ≤ next
  pub fits : next ≤ length trees
  pub same : length labelled ≡ length trees
  pub small : length trees ≤ 200

-- whatever components pic stood up to end, and c behind them, c is inserted among pic
pub record ComponentInserted (m end next : ℕ) (sizes₀ trees₀ labelled₀ sizes trees labelled : List ℕ) : Type 0 where
  pub inserts : (pic : List (List Plant)) (c : List Plant) (d e : List ℕ) → next ≤ length d → next ≤ length e → m < length sizes₀
      → take m sizes₀ ≡ map points (shapes pic) → end ≡ points (map shape (joined pic)) → Planted (joined pic ++ c) 0 d e next trees₀ labelled₀
      → (take (m + 1) sizes ≡ map points (shapes (insert compare_shapes c pic))) × Planted (joined (insert compare_shapes c pic)) 0 d e next trees labelled
