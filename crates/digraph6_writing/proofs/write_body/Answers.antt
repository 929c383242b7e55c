use Prim.Native.Nat.{◌<◌}
use native.Mathlib.Omega.{arith}
use lib.ListN.{length}
use Rattle.digraph6_writing.proofs.Arcs.{writing_start, arc-within, byte_small, writing-next}
use Rattle.digraph6_writing.proofs.write_body.Goals as goal

pub loop-i-init : goal.loop-i-init
loop-i-init c = writing_start c.args.f.now c.args.body.now c.requires.room (c.fill.ensures.after (λ y e. e))

pub bounds-body-place : goal.bounds-body-place
bounds-body-place c =
    let here : c.loop-i.i < length c.args.f.now = omega arith in
    rw c.from.ensures (omega (arith, arc-within c.loop-i.invariant c.requires.table here))

pub overflow_add-body : goal.overflow_add-body
overflow_add-body c =
    let w = c.loop-i.invariant in
    let here : c.loop-i.i < length c.args.f.now = omega arith in
    rw c.from.ensures (omega (arith, byte_small w _ (arc-within w c.requires.table here), rw c.from.ensures at c.weight.ensures))

pub bounds-body-place-in-loop-i : goal.bounds-body-place-in-loop-i
bounds-body-place-in-loop-i c =
    let here : c.loop-i.i < length c.args.f.now = omega arith in
    rw c.from.ensures (omega (arith, arc-within c.loop-i.invariant c.requires.table here))

pub loop-i-preserved : goal.loop-i-preserved
loop-i-preserved c = rw (c.weight.ensures, c.from.ensures) (writing-next c.loop-i.invariant c.requires.table (omega arith))
