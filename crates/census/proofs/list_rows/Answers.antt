use native.Mathlib.Omega.{arith}
use Rattle.census.proofs.RowsListed.{rows_start, rows-room, rows_taken, rows-passed, rows_end}
use Rattle.census.proofs.list_rows.Goals as goal
use Rattle.census.proofs.list_rows.Goals.{then-count-ne0, else-count-ne0}

pub loop-l-init : goal.loop-l-init
loop-l-init c = rows_start c.requires

pub bounds-lengths-rows : goal.bounds-lengths-rows
bounds-lengths-rows c = (rows-room c.requires c.loop-l.invariant (omega arith) c.if-count-ne0.true).0

pub bounds-counts-rows : goal.bounds-counts-rows
bounds-counts-rows c = (rows-room c.requires c.loop-l.invariant (omega arith) c.if-count-ne0.true).1

pub overflow_add-rows : goal.overflow_add-rows
overflow_add-rows c =
    let b = (rows-room c.requires c.loop-l.invariant (omega arith) c.if-count-ne0.true).0 in
    omega arith

pub loop-l-preserved : goal.loop-l-preserved
loop-l-preserved c =
    let p = c.requires in
    let l = c.loop-l.invariant in
    elim c.if-count-ne0.branch [
      | then-count-ne0 w ↦ rw (w.lengths-is, w.counts-is, w.rows-is) (rows_taken p l (omega arith) w.if-count-ne0.true)
      | else-count-ne0 w ↦ rw (w.lengths-is, w.counts-is, w.rows-is) (rows-passed p l (omega arith) w.if-count-ne0.false)
    ]

pub shape_of-lengths : goal.shape_of-lengths
shape_of-lengths c = c.loop-l.invariant.lengths_same

pub shape_of-counts : goal.shape_of-counts
shape_of-counts c = c.loop-l.invariant.counts_same

pub returns : goal.returns
returns c = rows_end c.loop-l.invariant (omega arith)
