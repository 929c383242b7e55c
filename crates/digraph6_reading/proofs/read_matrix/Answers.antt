use native.Mathlib.Omega.{arith}
use Rattle.lists.specs.Select.{gather}
use Rattle.patterns.specs.Digraph6.{bits_of}
use Rattle.digraph6_reading.proofs.Bodies.{matrix-whole}
use Rattle.digraph6_reading.proofs.MatrixRows.{rows_start, rows_none, rows-second, rows_next, rows_end}
use Rattle.digraph6_reading.proofs.read_matrix.Goals as goal

pub loop-i-init : goal.loop-i-init
loop-i-init c = let a = c.args in rows_start (gather bits_of a.body.now) a.table.now c.next_one-one.ensures

pub returns-then-start-n : goal.returns-then-start-n
returns-then-start-n c = rows_none c.loop-i.invariant (matrix-whole c.requires) (omega arith) (omega arith)

pub returns-then-one-start : goal.returns-then-one-start
returns-then-one-start c =
    rows-second c.loop-i.invariant (matrix-whole c.requires) (omega arith) (omega arith) c.next_one-one-in-loop-i.ensures (omega arith)

pub loop-i-preserved : goal.loop-i-preserved
loop-i-preserved c =
    rows_next c.loop-i.invariant (matrix-whole c.requires) (omega arith) (omega arith) c.next_one-one-in-loop-i.ensures (omega arith)

pub returns : goal.returns
returns c = rows_end c.loop-i.invariant (omega arith)
