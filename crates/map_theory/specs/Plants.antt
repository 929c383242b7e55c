-- Trees with a point of a map at every place, and the tree at a point with its points.
use Rattle.std.specs.Prelude.{List, [], ◌∷◌, ◌++◌, map, length}
use Prim.Native.Nat.{ℕ, zero, suc, Ordering}
use Rattle.lists.specs.Sort.{sort}
use Rattle.lists.specs.Select.{gather}
use Rattle.patterns.specs.Tree.{Tree, point, merge, compare_tree}
use Rattle.patterns.specs.System.{compare_generated}
use Rattle.patterns.specs.Table.{image, hanging, cycle_from}

-- a tree with a point at every place
pub data Plant : Type 0 where
  tip : ℕ → Plant
  join : Plant → Plant → Plant

-- the tree without the points
abbrev pub shape : Plant → Tree
shape (tip x) = point
shape (join t u) = merge (shape t) (shape u)

-- the point at the root
abbrev pub root : Plant → ℕ
root (tip x) = x
root (join t u) = root t

-- the points but the root, in written order
abbrev pub inner : Plant → List ℕ
inner (tip x) = []
inner (join t u) = inner t ++ (root u ∷ inner u)

-- all points, in written order
abbrev pub labels : Plant → List ℕ
labels t = root t ∷ inner t

-- t with further plants attached to its root, one after another
abbrev pub plant_on : Plant → List Plant → Plant
plant_on t [] = t
plant_on t (u ∷ us) = plant_on (join t u) us

-- plants are compared by their shapes
abbrev pub compare_plant : Plant → Plant → Ordering
compare_plant t u = compare_tree (shape t) (shape u)

-- the system without the points
abbrev pub shapes : List (List Plant) → List (List Tree)
shapes pic = map (map shape) pic

-- components of plants are compared by their shapes
abbrev pub compare_shapes : List Plant → List Plant → Ordering
compare_shapes c d = compare_generated (map shape c) (map shape d)

module _ (n : ℕ) (f : ℕ → ℕ) where
  -- the plant of x, as far as k steps reach
  unfoldable pub plant_to : ℕ → ℕ → Plant
  plant_to zero x = tip x
  plant_to (suc k) x = plant_on (tip x) (sort compare_plant (map (plant_to k) (hanging n f x)))

-- the tree at a point of a table, with its points
abbrev pub plant_at : List ℕ → ℕ → Plant
plant_at f x = plant_to (length f) (image f) (length f) x

-- the plants along the cycle from x on
abbrev pub plants_along : List ℕ → ℕ → List Plant
plants_along f x = map (plant_at f) (cycle_from (length f) (image f) x)

-- the plants of components, one component after another
abbrev pub joined : List (List Plant) → List Plant
joined pic = gather (λ c. c) pic
