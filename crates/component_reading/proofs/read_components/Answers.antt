use native.Mathlib.Omega.{arith}
use Rattle.std.proofs.lemmas.Result.{err_from_is_err_and}
use Rattle.component_reading.proofs.ComponentsRead.{component-at, component_bytes}
use Rattle.component_reading.proofs.ComponentsRead.{gathering-start, gathering-room, gathering-next, gathering-refused, gathering-over, gathering-end}
use Rattle.component_reading.proofs.read_components.Goals as goal

pub loop-i-init : goal.loop-i-init
loop-i-init c =
    let a = c.args in
    gathering-start a.s.now a.sizes.now a.trees.now a.at a.m a.left

pub returns-in_err-end : goal.returns-in_err-end
returns-in_err-end c =
    let call = c.read_component in
    let p = err_from_is_err_and c.from_residual.result c.from_residual.ensures.1 in
    rw (p.1, p.2) (gathering-refused c.requires c.loop-i.invariant c.in_err-end.field-0.0 call.result (omega arith) call.ensures c.in_err-end.was)

-- a component has been read in this turn
pub offset_bounds-s-next : goal.offset_bounds-s-next
offset_bounds-s-next c =
    let d = component-at c.args.s.now c.loop-i.next c.loop-i.rest c.in_ok-end.end c.read_component.result c.read_component.ensures c.in_ok-end.was in
    omega (arith, d.1)

pub slice_bounds-narrow-end : goal.slice_bounds-narrow-end
slice_bounds-narrow-end c =
    let d = component-at c.args.s.now c.loop-i.next c.loop-i.rest c.in_ok-end.end c.read_component.result c.read_component.ensures c.in_ok-end.was in
    omega (arith, d.1)

pub overflow_cast-sizes : goal.overflow_cast-sizes
overflow_cast-sizes c =
    let d = component-at c.args.s.now c.loop-i.next c.loop-i.rest c.in_ok-end.end c.read_component.result c.read_component.ensures c.in_ok-end.was in
    omega (arith, d.1)

pub overflow_sub-rest : goal.overflow_sub-rest
overflow_sub-rest c =
    let d = component-at c.args.s.now c.loop-i.next c.loop-i.rest c.in_ok-end.end c.read_component.result c.read_component.ensures c.in_ok-end.was in
    omega (arith, d.1)

pub narrow-requires : goal.narrow-requires
narrow-requires c =
    let d = component-at c.args.s.now c.loop-i.next c.loop-i.rest c.in_ok-end.end c.read_component.result c.read_component.ensures c.in_ok-end.was in
    (gathering-room c.requires c.loop-i.invariant d.1, component_bytes d.1 (omega arith))

pub loop-i-preserved : goal.loop-i-preserved
loop-i-preserved c =
    let d = component-at c.args.s.now c.loop-i.next c.loop-i.rest c.in_ok-end.end c.read_component.result c.read_component.ensures c.in_ok-end.was in
    rw c.narrow.ensures (gathering-next c.requires c.loop-i.invariant d.0 c.in_ok-end.end d.1 (omega arith))

pub returns-then-rest-gt0 : goal.returns-then-rest-gt0
returns-then-rest-gt0 c = gathering-over c.requires c.loop-i.invariant (omega arith) (omega arith)

pub returns : goal.returns
returns c = gathering-end c.requires c.loop-i.invariant (omega arith) (omega arith)
