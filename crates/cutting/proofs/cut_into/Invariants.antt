use Rattle.cutting.proofs.Cutting.{Cutting}
use Rattle.cutting.proofs.cut_into.Given as goal

abbrev pub invariant-loop-byte : goal.invariant-loop-byte
invariant-loop-byte l = Cutting l.s l.initial.out l.out l.byte-index l.numbers l.place l.first
