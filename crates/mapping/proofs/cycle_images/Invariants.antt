use mathlib.Core.Path.{◌≡◌}
use Prim.Native.Nat.{◌+◌, ◌-◌}
use lib.ListN.{length}
use Rattle.patterns.specs.Component.{Component, points, flat}
use Rattle.memory.specs.Memory.{Stands}
use Rattle.mapping.proofs.CycleImages.{Rounding}
use Rattle.mapping.proofs.cycle_images.Given as goal

abbrev pub invariant-loop-p : goal.invariant-loop-p
invariant-loop-p l = (length l.out ≡ length l.initial.out) × ((c : Component) → Stands (flat c) l.start l.trees → l.end ≡ l.start + points c → Rounding c l.start l.end l.p l.initial.out l.out)

abbrev pub decreases-loop-p : goal.decreases-loop-p
decreases-loop-p l = l.end - l.p
