use Rattle.paths.proofs.Tracing.{Tracing}
use Rattle.paths.proofs.path_into.Given as goal

abbrev pub invariant-loop-at : goal.invariant-loop-at
invariant-loop-at l = Tracing l.initial.s l.initial.keys l.s l.keys l.trees l.lead l.at
