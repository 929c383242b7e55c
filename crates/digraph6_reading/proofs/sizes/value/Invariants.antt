use Rattle.digraph6_reading.proofs.Digits.{Valuing}
use Rattle.digraph6_reading.proofs.sizes.value.Given as goal

abbrev pub invariant-loop-x : goal.invariant-loop-x
invariant-loop-x l = Valuing l.digits l.a l.x-index
