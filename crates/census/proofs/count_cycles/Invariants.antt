use lib.ListN.{length}
use Rattle.patterns.specs.Table.{image}
use Rattle.census.proofs.Counting.{Counting}
use Rattle.census.proofs.Clearing.{Cleared}
use Rattle.census.proofs.count_cycles.Given as goal

abbrev pub invariant-loop-x : goal.invariant-loop-x
invariant-loop-x l = Counting (length l.table.images.now) (image l.table.images.now) l.counts l.x × Cleared l.table.images.now l.marks l.x
