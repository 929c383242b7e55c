use Rattle.distances.proofs.Noting.{Measuring}
use Rattle.distances.proofs.marked_height.Given as goal

abbrev pub invariant-loop-x : goal.invariant-loop-x
invariant-loop-x l = Measuring l.table.images.now l.marks l.most l.x
