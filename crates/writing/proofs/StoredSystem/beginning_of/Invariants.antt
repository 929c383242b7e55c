use Rattle.patterns.specs.System.{System}
use Rattle.memory.specs.Memory.{Holds}
use Rattle.writing.specs.Passed.{Passed}
use Rattle.writing.proofs.StoredSystem.beginning_of.Given as goal

abbrev pub invariant-loop-size : goal.invariant-loop-size
invariant-loop-size l = (S : System) → Holds S l.self.sizes.now l.self.trees.now → Passed S l.size-index l.from l.start
