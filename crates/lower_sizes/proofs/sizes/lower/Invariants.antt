use Prim.Native.Nat.{◌+◌}
use Rattle.lower_sizes.proofs.Lowering.{Lowering}
use Rattle.lower_sizes.proofs.sizes.lower.Given as goal

abbrev pub invariant-loop-i : goal.invariant-loop-i
invariant-loop-i l = Lowering l.initial.sizes (l.from + 1) l.sizes l.i l.rest
