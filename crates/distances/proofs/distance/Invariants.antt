use Rattle.distances.specs.Noted.{distance_in}
use Rattle.distances.proofs.Noting.{Stepping}
use Rattle.distances.proofs.distance.Given as goal

abbrev pub invariant-loop-y : goal.invariant-loop-y
invariant-loop-y l = Stepping l.f l.x l.steps l.y

abbrev pub decreases-loop-y : goal.decreases-loop-y
decreases-loop-y l = distance_in l.f l.y
