use Prim.Native.Nat.{◌-◌}
use Rattle.greatest_period_entry.proofs.Choosing.{Choosing}
use Rattle.greatest_period_entry.proofs.put_lengths.Given as goal

abbrev pub invariant-loop-k : goal.invariant-loop-k
invariant-loop-k l = Choosing l.n l.sizes l.mask l.at l.left (l.k - 1)
