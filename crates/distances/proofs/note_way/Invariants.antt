use Rattle.distances.proofs.Noting.{NotingWay}
use Rattle.distances.proofs.note_way.Given as goal

abbrev pub invariant-loop-noted : goal.invariant-loop-noted
invariant-loop-noted l = NotingWay l.f l.initial.noted l.distance l.noted l.y l.note

abbrev pub decreases-loop-noted : goal.decreases-loop-noted
decreases-loop-noted l = l.note
