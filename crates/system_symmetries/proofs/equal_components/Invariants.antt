use Rattle.system_symmetries.proofs.EqualComponents.{EqualFirst}
use Rattle.system_symmetries.proofs.equal_components.Given as goal

abbrev pub invariant-loop-size : goal.invariant-loop-size
invariant-loop-size l = EqualFirst l.component l.sizes l.trees l.n l.at l.size-index
