use Rattle.patterns.specs.System.{System}
use Rattle.memory.specs.Memory.{Holds}
use Rattle.writing.proofs.Placements.{Writing}
use Rattle.writing.proofs.StoredSystem.write_components.Given as goal

abbrev pub invariant-loop-size : goal.invariant-loop-size
invariant-loop-size l = (S : System) → Holds S l.self.sizes.now l.self.trees.now → Writing S l.initial.out l.at l.out l.size-index l.from l.next
