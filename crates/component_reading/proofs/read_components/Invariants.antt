use Rattle.component_reading.proofs.ComponentsRead.{Gathering}
use Rattle.component_reading.proofs.read_components.Given as goal

abbrev pub invariant-loop-i : goal.invariant-loop-i
invariant-loop-i l = Gathering l.s l.initial.sizes l.initial.trees l.at l.m l.left l.sizes l.trees l.next l.rest l.i
