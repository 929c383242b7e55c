use Rattle.census.proofs.Filling.{Filled}
use Rattle.census.proofs.fill.Given as goal

abbrev pub invariant-loop-i : goal.invariant-loop-i
invariant-loop-i l = Filled l.rows l.initial.out l.i l.out
