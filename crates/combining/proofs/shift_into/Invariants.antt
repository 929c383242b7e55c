use Prim.Native.Nat.{◌+◌}
use Rattle.combining.proofs.ShiftedNumbers.{Shifting}
use Rattle.combining.proofs.shift_into.Given as goal

abbrev pub invariant-loop-j : goal.invariant-loop-j
invariant-loop-j l = Shifting (λ y. l.shift + y) l.g l.at l.initial.out l.out l.j
