use Rattle.cycles.proofs.Degrees.{Counting}
use Rattle.cycles.proofs.count_in_degrees.Given as goal

abbrev pub invariant-loop-y : goal.invariant-loop-y
invariant-loop-y l = Counting l.f l.degrees l.y-index
