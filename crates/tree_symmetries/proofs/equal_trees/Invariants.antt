use Prim.Native.Nat.{◌-◌}
use lib.ListN.{length}
use Rattle.trees.proofs.Walks.{Along}
use Rattle.tree_symmetries.proofs.EqualTrees.{EqualAhead}
use Rattle.tree_symmetries.proofs.equal_trees.Given as goal

abbrev pub invariant-loop-at : goal.invariant-loop-at
invariant-loop-at l = Along l.row l.at (EqualAhead l.tree l.n)

abbrev pub decreases-loop-at : goal.decreases-loop-at
decreases-loop-at l = length l.row - l.at
