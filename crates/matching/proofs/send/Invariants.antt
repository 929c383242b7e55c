use lib.ListN.{length}
use Rattle.matching.proofs.Sending.{Sending}
use Rattle.matching.proofs.send.Given as goal

abbrev pub invariant-loop-x : goal.invariant-loop-x
invariant-loop-x l = Sending l.a l.b l.r (length l.yielded)
