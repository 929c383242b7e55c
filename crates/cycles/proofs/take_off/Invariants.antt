use Prim.Native.Nat.{◌-◌}
use lib.ListN.{length}
use Rattle.cycles.proofs.Leaves.{TakenOff}
use Rattle.cycles.proofs.take_off.Given as goal

abbrev pub invariant-loop-i : goal.invariant-loop-i
invariant-loop-i l = TakenOff l.f l.degrees l.queue l.i l.len

abbrev pub decreases-loop-i : goal.decreases-loop-i
decreases-loop-i l = length l.f - l.i
