use Rattle.counting_entry.proofs.Factorials.{FactorsBelow}
use Rattle.counting_entry.proofs.factorial.Given as goal

abbrev pub invariant-loop-i : goal.invariant-loop-i
invariant-loop-i l = FactorsBelow l.n l.i l.product
