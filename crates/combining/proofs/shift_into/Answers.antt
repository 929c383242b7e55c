use native.Mathlib.Omega.{arith}
use Rattle.combining.proofs.ShiftedNumbers.{shifting-next}
use Rattle.combining.proofs.shift_into.Goals as goal

pub loop-j-preserved : goal.loop-j-preserved
loop-j-preserved c = rw c.from.ensures (shifting-next c.loop-j.invariant c.requires.room (omega arith))
