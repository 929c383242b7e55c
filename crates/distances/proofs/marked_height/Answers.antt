use native.Mathlib.Omega.{arith}
use Rattle.distances.proofs.Noting.{greater-is, measuring-start, measuring-noted, measuring-walked, measuring-end}
use Rattle.distances.proofs.marked_height.Goals as goal
use Rattle.distances.proofs.marked_height.Goals.{then-marks-x-eq0, else-marks-x-eq0}

pub loop-x-init : goal.loop-x-init
loop-x-init c = measuring-start c.args.table.table c.args.table.small c.requires

pub loop-x-preserved : goal.loop-x-preserved
loop-x-preserved c =
    let i = c.loop-x.invariant in
    let h = c.loop-x-test.true in
    elim c.if-marks-x-eq0.branch [
      | then-marks-x-eq0 w ↦ rw (w.marks-is, w.most-is, w.max-most.ensures, greater-is) (measuring-walked i h w.distance-steps.ensures w.note_way.ensures)
      | else-marks-x-eq0 w ↦ rw (w.marks-is, w.most-is) (measuring-noted i h w.if-marks-x-eq0.false)
    ]

pub returns : goal.returns
returns c = measuring-end c.loop-x.invariant (omega arith)
