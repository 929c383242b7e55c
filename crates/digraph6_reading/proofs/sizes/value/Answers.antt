use native.Mathlib.Omega.{arith}
use Rattle.digraph6_reading.proofs.Digits.{digit-format, valuing-next}
use Rattle.digraph6_reading.proofs.sizes.value.Goals as goal

pub overflow_sub-x : goal.overflow_sub-x
overflow_sub-x c = (digit-format c.loop-x.invariant c.requires.0 c.requires.1 (omega arith)).0

pub loop-x-preserved : goal.loop-x-preserved
loop-x-preserved c = rw c.from.ensures (valuing-next c.loop-x.invariant c.requires.0 c.requires.1 (omega arith))
