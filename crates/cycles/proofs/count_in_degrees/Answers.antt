use native.Mathlib.Omega.{arith}
use Rattle.cycles.proofs.Degrees.{counting-place, counting-bound}
use Rattle.cycles.proofs.count_in_degrees.Goals as goal

pub bounds-degrees-from : goal.bounds-degrees-from
bounds-degrees-from c = omega (arith, counting-place c.loop-y.invariant c.args.table.table c.loop-y-test.true)

pub overflow_add-degrees : goal.overflow_add-degrees
overflow_add-degrees c =
    rw c.from.ensures (omega (arith, counting-bound c.loop-y.invariant c.args.table.table c.loop-y-test.true, c.loop-y.invariant.passed, c.args.table.small))

pub bounds-degrees-from-in-loop-y : goal.bounds-degrees-from-in-loop-y
bounds-degrees-from-in-loop-y c = omega (arith, counting-place c.loop-y.invariant c.args.table.table c.loop-y-test.true)
