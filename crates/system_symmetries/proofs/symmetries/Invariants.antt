use Rattle.system_symmetries.proofs.ComponentWalks.{CountedFirst}
use Rattle.system_symmetries.proofs.symmetries.Given as goal

abbrev pub invariant-loop-i : goal.invariant-loop-i
invariant-loop-i l = CountedFirst l.sizes l.trees l.product l.at l.i
