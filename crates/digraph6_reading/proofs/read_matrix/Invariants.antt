use lib.ListN.{length}
use Rattle.lists.specs.Select.{gather}
use Rattle.patterns.specs.Digraph6.{bits_of}
use Rattle.digraph6_reading.proofs.MatrixRows.{RowsRead}
use Rattle.digraph6_reading.proofs.read_matrix.Given as goal

abbrev pub invariant-loop-i : goal.invariant-loop-i
invariant-loop-i l = RowsRead (length l.initial.table) (gather bits_of l.body) l.table l.one l.i
