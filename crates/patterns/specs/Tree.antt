-- Trees and their codes: document 004, Definitions 1, 3 and 7; document 01, "Trees, components, systems".
use Rattle.std.specs.Prelude.{Bool, true, ◌&&◌, List, [], ◌∷◌, ◌++◌}
use Prim.Native.Nat.{ℕ, ◌+◌, Ordering, compare}
use Rattle.lists.specs.Order.{lex, at_most}

-- Definition 3: `merge t u` is t with u attached to its root as the last branch. Every tree of more than one point is such a merge in exactly
-- one way, so unmerging (Definition 7) is matching on `merge`.
pub data Tree : Type 0 where
  point : Tree
  merge : Tree → Tree → Tree

-- the number of points
abbrev pub size : Tree → ℕ
size point = 1
size (merge t u) = size t + size u

-- the code without its first number
abbrev pub below : Tree → List ℕ
below point = []
below (merge t u) = below t ++ (size u ∷ below u)

-- Definition 1 by way of Definition 3: the number of points, then the codes of the branches
abbrev pub code : Tree → List ℕ
code t = size t ∷ below t

-- the branches, in their order
abbrev pub branches : Tree → List Tree
branches point = []
branches (merge t u) = branches t ++ (u ∷ [])

-- t with further branches attached, one after another
abbrev pub graft_on : Tree → List Tree → Tree
graft_on t [] = t
graft_on t (u ∷ us) = graft_on (merge t u) us

-- the tree with these branches
abbrev pub graft : List Tree → Tree
graft bs = graft_on point bs

-- trees are compared by their codes, lexicographically
unfoldable pub compare_tree : Tree → Tree → Ordering
compare_tree t u = lex compare (code t) (code u)

-- the last branch of t, if it has one, is not greater than u
unfoldable pub last_at_most : Tree → Tree → Bool
unfolding compare_tree
last_at_most point u = true
last_at_most (merge t v) u = at_most compare_tree v u

-- Definition 1: the branches of every point in nondecreasing order
unfoldable pub valid_tree : Tree → Bool
unfolding last_at_most
valid_tree point = true
valid_tree (merge t u) = valid_tree t && valid_tree u && last_at_most t u
