use mathlib.Core.Path.{sym, ◌∙◌}
use native.Mathlib.Omega.{arith}
use lib.ListN.{length-set}
use Rattle.cycles.proofs.Leaves.{none-taken, queue-within, head-place, head-inside, next_place, next-some, next-room, next-joins, next-waits}
use Rattle.cycles.proofs.Pruning.{all-taken}
use Rattle.cycles.proofs.take_off.Goals as goal
use Rattle.cycles.proofs.take_off.Goals.{then-degrees-y-eq0, else-degrees-y-eq0}

pub loop-i-init : goal.loop-i-init
loop-i-init c = none-taken c.requires.0 c.requires.1

pub bounds-queue-i : goal.bounds-queue-i
bounds-queue-i c = head-place c.loop-i.invariant c.loop-i-test.true

pub bounds-f-x : goal.bounds-f-x
bounds-f-x c = head-inside c.loop-i.invariant c.loop-i-test.true

pub bounds-degrees-y-in-loop-i : goal.bounds-degrees-y-in-loop-i
bounds-degrees-y-in-loop-i c = next_place c.loop-i.invariant c.loop-i-test.true

pub overflow_sub-degrees : goal.overflow_sub-degrees
overflow_sub-degrees c = next-some c.loop-i.invariant c.loop-i-test.true

pub bounds-queue-len : goal.bounds-queue-len
bounds-queue-len c = next-room c.loop-i.invariant c.loop-i-test.true

pub bounds-degrees-y-in-loop-i-2 : goal.bounds-degrees-y-in-loop-i-2
bounds-degrees-y-in-loop-i-2 c = rw length-set (next_place c.loop-i.invariant c.loop-i-test.true)

pub overflow_add-len : goal.overflow_add-len
overflow_add-len c = omega (arith, queue-within c.loop-i.invariant, c.requires.0.small)

pub overflow_add-i : goal.overflow_add-i
overflow_add-i c = omega (arith, c.loop-i-test.true, queue-within c.loop-i.invariant, c.requires.0.small)

pub loop-i-smaller : goal.loop-i-smaller
loop-i-smaller c = omega (arith, c.loop-i-test.true, queue-within c.loop-i.invariant)

pub loop-i-preserved : goal.loop-i-preserved
loop-i-preserved c =
    let l = c.loop-i.invariant in
    let t = c.loop-i-test.true in
    elim c.if-degrees-y-eq0.branch [
      | then-degrees-y-eq0 w ↦ rw w.len-is (next-joins l t w.if-degrees-y-eq0.true)
      | else-degrees-y-eq0 w ↦ rw w.len-is (next-waits l t w.if-degrees-y-eq0.false)
    ]

pub shape_of-degrees : goal.shape_of-degrees
shape_of-degrees c = c.loop-i.invariant.same ∙ sym c.requires.0.same

pub shape_of-queue : goal.shape_of-queue
shape_of-queue c =
    let t = c.loop-i.invariant in
    omega (arith, t.queued.same, t.same, c.requires.1.same, c.requires.0.same)

pub returns : goal.returns
returns c = all-taken c.loop-i.invariant (omega (arith, c.loop-i-test.false))

pub bounds-degrees-y : goal.bounds-degrees-y
bounds-degrees-y c = next_place c.loop-i.invariant c.loop-i-test.true
