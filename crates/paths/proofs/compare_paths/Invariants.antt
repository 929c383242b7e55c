use lib.ListN.{length}
use Rattle.paths.proofs.Tracing.{Passed}
use Rattle.paths.proofs.compare_paths.Given as goal

abbrev pub invariant-loop-x : goal.invariant-loop-x
invariant-loop-x l = Passed l.a l.b (length l.yielded)
