use Rattle.patterns.specs.System.{System}
use Rattle.memory.specs.Memory.{Holds}
use Rattle.falling.proofs.Falling.{Falling}
use Rattle.falling.proofs.fall.Given as goal

abbrev pub invariant-loop-i : goal.invariant-loop-i
invariant-loop-i l = (S : System) → Holds S l.sizes l.initial.trees → Falling S l.sizes l.trees l.i l.at
