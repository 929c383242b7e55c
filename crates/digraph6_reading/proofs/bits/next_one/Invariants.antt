use Rattle.digraph6_reading.proofs.FirstOnes.{Searching}
use Rattle.digraph6_reading.proofs.bits.next_one.Given as goal

abbrev pub invariant-loop-k : goal.invariant-loop-k
invariant-loop-k l = Searching l.body l.p l.k l.j
