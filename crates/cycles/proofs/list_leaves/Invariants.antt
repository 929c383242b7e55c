use Rattle.cycles.proofs.Listing.{Listing}
use Rattle.cycles.proofs.list_leaves.Given as goal

abbrev pub invariant-loop-x : goal.invariant-loop-x
invariant-loop-x l = Listing l.degrees l.queue l.x l.len
