use mathlib.Core.Path.{◌≡◌}
use lib.ListN.{length}
use Rattle.patterns.specs.System.{System}
use Rattle.memory.specs.Memory.{Holds}
use Rattle.mapping.proofs.MapImages.{Mapping}
use Rattle.mapping.proofs.map_of.Given as goal

abbrev pub invariant-loop-size : goal.invariant-loop-size
invariant-loop-size l = (length l.out ≡ length l.initial.out) × ((S : System) → Holds S l.sizes l.trees → Mapping S l.size-index l.start l.initial.out l.out)
