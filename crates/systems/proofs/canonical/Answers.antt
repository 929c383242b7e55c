use mathlib.Core.Path.{refl, sym}
use mathlib.Core.List.{[]}
use Prim.Native.Nat.{◌+◌}
use native.Mathlib.Omega.{arith}
use lib.ListN.{get_or}
use Rattle.systems.proofs.Checking.{checking-start, checking-within, checking-part, checking-held, checking-invalid, checking-pair, checking-before}
use Rattle.systems.proofs.Checking.{checking-next, checking-end}
use Rattle.systems.proofs.canonical.Goals as goal

pub loop-size-init : goal.loop-size-init
loop-size-init c = checking-start c.requires

pub overflow_add-next : goal.overflow_add-next
overflow_add-next c = omega (arith, checking-within c.loop-size.invariant (omega arith) (c.loop-size.at + get_or c.args.sizes.now c.loop-size.size-index 0) refl)

pub slice_bounds-valid_component-end : goal.slice_bounds-valid_component-end
slice_bounds-valid_component-end c = omega (arith, checking-within c.loop-size.invariant (omega arith) (c.loop-size.at + get_or c.args.sizes.now c.loop-size.size-index 0) refl)

pub valid_component-requires : goal.valid_component-requires
valid_component-requires c = checking-held c.loop-size.invariant (omega arith) (c.loop-size.at + get_or c.args.sizes.now c.loop-size.size-index 0) refl

pub returns-then-not-valid_component : goal.returns-then-not-valid_component
returns-then-not-valid_component c =
    checking-invalid c.loop-size.invariant (omega arith) (c.loop-size.at + get_or c.args.sizes.now c.loop-size.size-index 0) refl
    (sym (c.if-not-valid_component.ensures (get_or c.loop-size.invariant.held.system c.loop-size.size-index []) (checking-part c.loop-size.invariant (omega arith) (c.loop-size.at + get_or c.args.sizes.now c.loop-size.size-index 0) refl)))

pub slice_bounds-follows-end : goal.slice_bounds-follows-end
slice_bounds-follows-end c = omega (arith, checking-within c.loop-size.invariant (omega arith) (c.loop-size.at + get_or c.args.sizes.now c.loop-size.size-index 0) refl)

pub slice_bounds-follows-end-in-loop-size : goal.slice_bounds-follows-end-in-loop-size
slice_bounds-follows-end-in-loop-size c = omega (arith, checking-within c.loop-size.invariant (omega arith) (c.loop-size.at + get_or c.args.sizes.now c.loop-size.size-index 0) refl)

-- the component is valid
pub follows-requires : goal.follows-requires
follows-requires c =
    checking-pair c.loop-size.invariant (omega arith) (c.loop-size.at + get_or c.args.sizes.now c.loop-size.size-index 0) refl
    (sym (c.if-not-valid_component.ensures (get_or c.loop-size.invariant.held.system c.loop-size.size-index []) (checking-part c.loop-size.invariant (omega arith) (c.loop-size.at + get_or c.args.sizes.now c.loop-size.size-index 0) refl)))

pub returns-then-not-follows : goal.returns-then-not-follows
returns-then-not-follows c =
    let inv = c.loop-size.invariant in
    let part = checking-part inv (omega arith) (c.loop-size.at + get_or c.args.sizes.now c.loop-size.size-index 0) refl in
    checking-before inv (omega arith) (c.loop-size.at + get_or c.args.sizes.now c.loop-size.size-index 0) refl
    (sym (c.if-not-valid_component.ensures (get_or c.loop-size.invariant.held.system c.loop-size.size-index []) (checking-part c.loop-size.invariant (omega arith) (c.loop-size.at + get_or c.args.sizes.now c.loop-size.size-index 0) refl)))
    (sym (c.if-not-follows.ensures inv.p (get_or c.loop-size.invariant.held.system c.loop-size.size-index []) inv.left_is part))

pub loop-size-preserved : goal.loop-size-preserved
loop-size-preserved c =
    let inv = c.loop-size.invariant in
    let part = checking-part inv (omega arith) (c.loop-size.at + get_or c.args.sizes.now c.loop-size.size-index 0) refl in
    checking-next inv (omega arith) (c.loop-size.at + get_or c.args.sizes.now c.loop-size.size-index 0) refl
    (sym (c.if-not-valid_component.ensures (get_or c.loop-size.invariant.held.system c.loop-size.size-index []) (checking-part c.loop-size.invariant (omega arith) (c.loop-size.at + get_or c.args.sizes.now c.loop-size.size-index 0) refl)))
    (sym (c.if-not-follows.ensures inv.p (get_or c.loop-size.invariant.held.system c.loop-size.size-index []) inv.left_is part))

pub returns : goal.returns
returns c = checking-end c.loop-size.invariant (omega arith)
