use Rattle.std.proofs.Common.{arith}
use Rattle.writing.proofs.Placements.{system-to, system-room, system-next}
use Rattle.writing.proofs.StoredSystem.write_components.Goals as goal

pub overflow_add-to : goal.overflow_add-to
overflow_add-to c = omega (arith, c.from.ensures, system-to c.requires c.loop-size.invariant (omega arith))

pub slice_bounds-write_component-end : goal.slice_bounds-write_component-end
slice_bounds-write_component-end c = rw c.from.ensures (system-to c.requires c.loop-size.invariant (omega arith))

pub write_component-next-requires : goal.write_component-next-requires
write_component-next-requires c = rw c.from.ensures (system-room c.requires c.loop-size.invariant (omega arith))

pub loop-size-preserved : goal.loop-size-preserved
loop-size-preserved c = rw c.from.ensures (system-next c.requires c.loop-size.invariant (omega arith) _ _ (rw c.from.ensures at c.write_component-next.ensures))
