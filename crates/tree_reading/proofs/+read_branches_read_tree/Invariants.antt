use Prim.Native.Nat.{◌+◌}
use Rattle.tree_reading.proofs.+read_branches_read_tree.Given as goal

-- The points that may be read fall: twice their number, and one more for branches, which read a tree of as many.
abbrev pub decreases-read_branches : goal.decreases-read_branches
decreases-read_branches l = l.left + l.left + 1

abbrev pub decreases-read_tree : goal.decreases-read_tree
decreases-read_tree l = l.limit + l.limit
