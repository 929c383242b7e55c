use lib.ListN.{length}
use Rattle.patterns.specs.Table.{image}
use Rattle.links.proofs.Descending.{Ahead}
use Rattle.links.proofs.next_lesser.Given as goal

abbrev pub invariant-loop-y : goal.invariant-loop-y
invariant-loop-y l = Ahead (length l.table.images.now) (image l.table.images.now) l.x l.y

abbrev pub decreases-loop-y : goal.decreases-loop-y
decreases-loop-y l = l.y
