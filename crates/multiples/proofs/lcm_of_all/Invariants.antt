use Rattle.multiples.proofs.LcmSteps.{Gathered}
use Rattle.multiples.proofs.lcm_of_all.Given as goal

abbrev pub invariant-loop-x : goal.invariant-loop-x
invariant-loop-x l = Gathered l.s l.x-index l.multiple
