use Prim.Native.Nat.{◌-◌}
use lib.ListN.{length}
use Rattle.tree_symmetries.proofs.BranchWalks.{CountedTo}
use Rattle.tree_symmetries.proofs.+tree_symmetries.Given as goal

abbrev pub decreases-tree_symmetries : goal.decreases-tree_symmetries
decreases-tree_symmetries l = length l.s.now

abbrev pub invariant-loop-at : goal.invariant-loop-at
invariant-loop-at l = CountedTo l.s l.at l.product

abbrev pub decreases-loop-at : goal.decreases-loop-at
decreases-loop-at l = length l.s - l.at
