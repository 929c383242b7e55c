use Prim.Native.Nat.{◌-◌}
use lib.ListN.{length}
use Rattle.census.proofs.Clearing.{Clearing}
use Rattle.census.proofs.clear_cycle.Given as goal

abbrev pub invariant-loop-y : goal.invariant-loop-y
invariant-loop-y l = Clearing l.f l.initial.marks l.x l.length l.y l.marks

abbrev pub decreases-loop-y : goal.decreases-loop-y
decreases-loop-y l = length l.f - l.length
