use native.Mathlib.Omega.{arith}
use Rattle.digraph6_reading.proofs.ByteBits.{passing-next}
use Rattle.digraph6_reading.proofs.bits.first_in.Goals as goal

pub loop-i-preserved : goal.loop-i-preserved
loop-i-preserved c = passing-next c.loop-i.invariant (omega arith) c.bit.ensures c.if-bit-eq1.false
