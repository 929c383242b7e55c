use Rattle.cycles.proofs.Marking.{Marking}
use Rattle.cycles.proofs.mark_left.Given as goal

abbrev pub invariant-loop-mark : goal.invariant-loop-mark
invariant-loop-mark l = Marking l.initial.marks l.marks l.mark-index
