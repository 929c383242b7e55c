use Prim.Native.Nat.{◌-◌}
use lib.ListN.{length}
use Rattle.trees.proofs.Walks.{Along}
use Rattle.tree_symmetries.proofs.CycleWalks.{Multiplied}
use Rattle.tree_symmetries.proofs.trees_symmetries.Given as goal

abbrev pub invariant-loop-at : goal.invariant-loop-at
invariant-loop-at l = Along l.s l.at (Multiplied l.product)

abbrev pub decreases-loop-at : goal.decreases-loop-at
decreases-loop-at l = length l.s - l.at
