use Prim.Native.Nat.{◌-◌}
use native.Mathlib.Omega.{arith}
use Rattle.lower_sizes.proofs.Lowering.{lowering-start, lowering_small, lowering-next, lowering-found}
use Rattle.lower_sizes.proofs.sizes.lower.Goals as goal

pub loop-i-init : goal.loop-i-init
loop-i-init c = lowering-start c.requires

pub overflow_add-sizes : goal.overflow_add-sizes
overflow_add-sizes c = omega (arith, lowering_small c.loop-i.invariant (c.loop-i.i - 1) (omega arith))

pub overflow_cast-sizes-then-left_of-size : goal.overflow_cast-sizes-then-left_of-size
overflow_cast-sizes-then-left_of-size c = omega (arith, lowering_small c.loop-i.invariant (c.loop-i.i - 1) (omega arith))

pub returns-then-left_of-size : goal.returns-then-left_of-size
returns-then-left_of-size c =
    lowering-found c.loop-i.invariant (c.loop-i.i - 1) (omega arith) (omega (arith, c.left_of.ensures.0)) _ _ _
    (omega arith) (omega arith) (omega arith)

pub overflow_add-rest : goal.overflow_add-rest
overflow_add-rest c = omega (arith, lowering_small c.loop-i.invariant (c.loop-i.i - 1) (omega arith))

pub loop-i-preserved : goal.loop-i-preserved
loop-i-preserved c =
    lowering-next c.loop-i.invariant (c.loop-i.i - 1) (omega arith) (omega (arith, c.left_of.ensures.0)) _ (omega arith)
