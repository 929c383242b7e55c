use Rattle.tree_reading.proofs.Along.{Along}
use Rattle.tree_reading.proofs.read_trees.Given as goal

abbrev pub invariant-loop-i : goal.invariant-loop-i
invariant-loop-i l = Along l.s l.at l.k l.left l.next l.rest l._i
