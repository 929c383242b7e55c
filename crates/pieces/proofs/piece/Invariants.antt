use Prim.Native.Nat.{◌-◌}
use lib.ListN.{length}
use Rattle.lister.specs.Remaining.{remaining}
use Rattle.pieces.proofs.FilledPieces.{Filling}
use Rattle.pieces.proofs.piece.Given as goal

abbrev pub invariant-loop-out : goal.invariant-loop-out
invariant-loop-out l = Filling (remaining l.initial.next) l.initial.out l.out l.at l.next

abbrev pub decreases-loop-out : goal.decreases-loop-out
decreases-loop-out l = length l.out - l.at
