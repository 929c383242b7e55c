use Rattle.census.proofs.RowsListed.{RowsSoFar}
use Rattle.census.proofs.list_rows.Given as goal

abbrev pub invariant-loop-l : goal.invariant-loop-l
invariant-loop-l l = RowsSoFar l.tallies l.initial.lengths l.initial.counts l.lengths l.counts l.rows l.l
