-- Maps and their codes: document 01, "Trees, components, systems"; document 004, Definitions 1, 2 and 14. The points of a map f are the numbers
-- below n, and each goes to a point. A table of n bytes gives such a map: byte i is the image of point i.
use Rattle.std.specs.Prelude.{Bool, cond, ◌&&◌, List, [], ◌∷◌, map, leb, ltb, length, get_or}
use Rattle.std.proofs.Math.Bool.{not}
use Prim.Native.Nat.{ℕ, zero, suc}
use Rattle.std.proofs.Math.Dec.{eqb}
use Rattle.lists.specs.Sort.{sort}
use Rattle.lists.specs.Select.{keep, each, some_of, range}
use Rattle.patterns.specs.Tree.{Tree, point, graft, compare_tree}
use Rattle.patterns.specs.Component.{Component, least_rotation}
use Rattle.patterns.specs.System.{System, compare_generated}

-- the image of a point
abbrev pub image : List ℕ → ℕ → ℕ
image f x = get_or f x 0

-- k steps from x
abbrev pub iterate : (ℕ → ℕ) → ℕ → ℕ → ℕ
iterate f zero x = x
iterate f (suc k) x = iterate f k (f x)

-- f x, f (f x), .., k points in all
abbrev pub orbit : (ℕ → ℕ) → ℕ → ℕ → List ℕ
orbit f zero x = []
orbit f (suc k) x = f x ∷ orbit f k (f x)

module _ (n : ℕ) (f : ℕ → ℕ) where
  -- x comes back to itself
  unfoldable pub on_cycle : ℕ → Bool
  on_cycle x = some_of (eqb x) (orbit f n x)

  -- y goes to x and is on no cycle
  unfoldable pub hangs_at : ℕ → ℕ → Bool
  unfolding on_cycle
  hangs_at x y = eqb (f y) x && not (on_cycle y)

  -- the roots of the branches at x
  unfoldable pub hanging : ℕ → List ℕ
  unfolding hangs_at
  hanging x = keep (hangs_at x) (range 0 n)

  -- the tree at x, as far as k steps reach
  unfoldable pub tree_to : ℕ → ℕ → Tree
  unfolding hanging compare_tree
  tree_to zero x = point
  tree_to (suc k) x = graft (sort compare_tree (map (tree_to k) (hanging x)))

  -- Definition 1: the tree at x; n steps reach all of it
  unfoldable pub tree_at : ℕ → Tree
  unfolding tree_to
  tree_at x = tree_to n x

  -- y, f y, .. as long as x has not come, at most k points
  unfoldable pub until : ℕ → ℕ → ℕ → List ℕ
  until zero x y = []
  until (suc k) x y =
      let more = y ∷ until k x (f y) in
      cond (eqb y x) [] more

  -- the cycle through x, from x on
  unfoldable pub cycle_from : ℕ → List ℕ
  unfolding until
  cycle_from x = x ∷ until n x (f x)

  -- Definition 2: the component whose cycle goes through x
  unfoldable pub component_at : ℕ → Component
  unfolding least_rotation tree_at cycle_from
  component_at x = least_rotation (map tree_at (cycle_from x))

  -- x is on a cycle and is its least point
  unfoldable pub leads_cycle : ℕ → Bool
  unfolding on_cycle
  leads_cycle x = on_cycle x && each (leb x) (orbit f n x)

  -- the least point of each cycle
  unfoldable pub leaders : List ℕ
  unfolding leads_cycle
  leaders = keep leads_cycle (range 0 n)

  -- Definition 14: the components, by number of points and then by generation order
  unfoldable pub system_of : System
  unfolding component_at leaders compare_generated
  system_of = sort compare_generated (map component_at leaders)

-- every byte of a table of n bytes is a point
abbrev pub is_table : List ℕ → Bool
is_table f = each (λ y. ltb y (length f)) f

-- the system of a table
unfoldable pub system_of_table : List ℕ → System
unfolding system_of
system_of_table f = system_of (length f) (image f)
