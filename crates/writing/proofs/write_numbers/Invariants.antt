use Rattle.writing.proofs.Placements.{Numbering}
use Rattle.writing.proofs.write_numbers.Given as goal

abbrev pub invariant-loop-x : goal.invariant-loop-x
invariant-loop-x l = Numbering l.s l.initial.out l.at l.out l.x-index l.next
