use Prim.Native.Nat.{◌-◌}
use lib.ListN.{length}
use Rattle.trees.proofs.Walks.{Along}
use Rattle.arrangement.proofs.Inserting.{Exceeds}
use Rattle.arrangement.proofs.points_before.Given as goal

abbrev pub invariant-loop-p : goal.invariant-loop-p
invariant-loop-p l = Along l.siblings l.p (Exceeds l.tree)

abbrev pub decreases-loop-p : goal.decreases-loop-p
decreases-loop-p l = length l.siblings - l.p
