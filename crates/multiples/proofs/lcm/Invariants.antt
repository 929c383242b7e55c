use Prim.Native.Nat.{◌-◌}
use Rattle.period_theory.specs.Multiples.{lcm}
use Rattle.multiples.proofs.LcmSteps.{Climbing}
use Rattle.multiples.proofs.lcm.Given as goal

abbrev pub invariant-loop-multiple : goal.invariant-loop-multiple
invariant-loop-multiple l = Climbing l.a l.b l.multiple

abbrev pub decreases-loop-multiple : goal.decreases-loop-multiple
decreases-loop-multiple l = lcm l.a l.b - l.multiple
