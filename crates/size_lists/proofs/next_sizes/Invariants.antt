use Rattle.size_lists.proofs.Growing.{Growing}
use Rattle.size_lists.proofs.next_sizes.Given as goal

abbrev pub invariant-loop-left : goal.invariant-loop-left
invariant-loop-left l = Growing l.initial.sizes l.m l.least l.sizes l.i l.left

abbrev pub decreases-loop-left : goal.decreases-loop-left
decreases-loop-left l = l.left
