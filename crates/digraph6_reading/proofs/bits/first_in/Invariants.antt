use Rattle.digraph6_reading.proofs.ByteBits.{Passing}
use Rattle.digraph6_reading.proofs.bits.first_in.Given as goal

abbrev pub invariant-loop-i : goal.invariant-loop-i
invariant-loop-i l = Passing l.x l.j l.i
