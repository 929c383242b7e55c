use native.Mathlib.Omega.{arith}
use lib.ListN.{length}
use Rattle.patterns.specs.Table.{image}
use Rattle.cycles.proofs.Marks.{inside}
use Rattle.links.proofs.Descending.{ahead-start, ahead-next, ahead-on_cycle, ahead-less, ahead-inside, ahead-end}
use Rattle.links.proofs.next_lesser.Goals as goal

pub bounds-f-x : goal.bounds-f-x
bounds-f-x c = c.requires.here

pub loop-y-init : goal.loop-y-init
loop-y-init c = ahead-start (length c.args.table.images.now) (image c.args.table.images.now) c.args.x

pub bounds-lesser-y : goal.bounds-lesser-y
bounds-lesser-y c =
    let f = c.args.table.images.now in
    let s = c.requires in
    let i = ahead-inside (length f) (image f) (inside f c.args.table.table) s.here c.loop-y.invariant in
    omega (arith, s.greater.room)

pub loop-y-smaller : goal.loop-y-smaller
loop-y-smaller c =
    let f = c.args.table.images.now in
    let s = c.requires in
    let a = c.loop-y.invariant in
    let i = ahead-inside (length f) (image f) (inside f c.args.table.table) s.here a in
    ahead-less (length f) (image f) s.is_on_cycle a (omega arith)
    (s.greater.on c.loop-y.y (omega arith) i (ahead-on_cycle (length f) (image f) s.is_on_cycle a))

pub loop-y-preserved : goal.loop-y-preserved
loop-y-preserved c =
    let f = c.args.table.images.now in
    let s = c.requires in
    let a = c.loop-y.invariant in
    let i = ahead-inside (length f) (image f) (inside f c.args.table.table) s.here a in
    ahead-next (length f) (image f) a (omega arith)
    (s.greater.on c.loop-y.y (omega arith) i (ahead-on_cycle (length f) (image f) s.is_on_cycle a))

pub returns : goal.returns
returns c = ahead-end (length c.args.table.images.now) (image c.args.table.images.now) c.loop-y.invariant (omega arith)
