use Rattle.patterns.specs.System.{System}
use Rattle.memory.specs.Memory.{Holds}
use Rattle.bumping.proofs.Scanning.{Scanning}
use Rattle.bumping.proofs.bump.Given as goal

abbrev pub invariant-loop-i : goal.invariant-loop-i
invariant-loop-i l = (S : System) → Holds S l.sizes l.initial.trees → Scanning S l.sizes l.trees l.i l.at
