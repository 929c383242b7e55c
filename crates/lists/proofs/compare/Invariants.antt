use lib.ListN.{length}
use Rattle.lists.proofs.Compared.{Compared}
use Rattle.lists.proofs.compare.Given as goal

abbrev pub invariant-loop-x : goal.invariant-loop-x
invariant-loop-x l = Compared l.s l.t (length l.yielded)
