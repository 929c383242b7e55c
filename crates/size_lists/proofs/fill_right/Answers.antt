use mathlib.Core.Path.{refl}
use native.Mathlib.Omega.{arith}
use Rattle.size_lists.proofs.Filling.{filling-fits, filling-next}
use Rattle.size_lists.proofs.fill_right.Goals as goal

pub overflow_add-end : goal.overflow_add-end
overflow_add-end c = omega (arith, filling-fits c.loop-size.invariant (omega arith))

pub slice_bounds-fill-end : goal.slice_bounds-fill-end
slice_bounds-fill-end c = filling-fits c.loop-size.invariant (omega arith)

pub loop-size-preserved : goal.loop-size-preserved
loop-size-preserved c = filling-next c.loop-size.invariant _ _ (omega arith) refl c.fill.ensures
