use Rattle.coding.proofs.Collecting.{Collecting}
use Rattle.coding.proofs.components_of.Given as goal

abbrev pub invariant-loop-x : goal.invariant-loop-x
invariant-loop-x l = Collecting l.f l.initial.trees l.initial.labels l.x l.end l.m l.sizes l.trees l.labels
