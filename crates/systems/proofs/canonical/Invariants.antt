use Rattle.systems.proofs.Checking.{Checking}
use Rattle.systems.proofs.canonical.Given as goal

abbrev pub invariant-loop-size : goal.invariant-loop-size
invariant-loop-size l = Checking l.sizes l.trees l.last l.at l.size-index
