use mathlib.Core.Path.{sym}
use native.Mathlib.Omega.{arith}
use lib.Seq.{length-take-le}
use Rattle.system_symmetries.proofs.ComponentWalks.{counted_start, first-within, first_holds, first-held, next-within, next-part, next_small, next-valid, few-equal, more-small, component-small, counted_next, counted-end}
use Rattle.system_symmetries.proofs.symmetries.Goals as goal

pub loop-i-init : goal.loop-i-init
loop-i-init c = let p = c.requires in counted_start p.0 p.1

pub overflow_add-end : goal.overflow_add-end
overflow_add-end c = omega (arith, first-within c.loop-i.invariant, next-within c.loop-i.invariant c.loop-i-test.true)

pub slice_bounds-equal_components-end : goal.slice_bounds-equal_components-end
slice_bounds-equal_components-end c = omega (arith, next-within c.loop-i.invariant c.loop-i-test.true)

pub slice_bounds-equal_components-end-in-loop-i-2 : goal.slice_bounds-equal_components-end-in-loop-i-2
slice_bounds-equal_components-end-in-loop-i-2 c = sym (length-take-le _ _ (first-within c.loop-i.invariant))

pub equal_components-before-requires : goal.equal_components-before-requires
equal_components-before-requires c = first-held c.loop-i.invariant

pub slice_bounds-component_symmetries-end : goal.slice_bounds-component_symmetries-end
slice_bounds-component_symmetries-end c = omega (arith, next-within c.loop-i.invariant c.loop-i-test.true)

pub component_symmetries-own-requires : goal.component_symmetries-own-requires
component_symmetries-own-requires c =
    (next-valid c.loop-i.invariant c.loop-i-test.true, next_small c.loop-i.invariant c.loop-i-test.true)

pub overflow_add-product : goal.overflow_add-product
overflow_add-product c =
    let h = c.loop-i-test.true in
    let w = c.loop-i.invariant in
    omega (arith, few-equal w h (c.equal_components-before.ensures _ _ (next-part w h) (first_holds w)) (c.component_symmetries-own.ensures _ (next-part w h)))

pub overflow_mul-product : goal.overflow_mul-product
overflow_mul-product c =
    let h = c.loop-i-test.true in
    let w = c.loop-i.invariant in
    omega (arith, component-small w h (c.equal_components-before.ensures _ _ (next-part w h) (first_holds w)) (c.component_symmetries-own.ensures _ (next-part w h)))

pub overflow_mul-product-in-loop-i : goal.overflow_mul-product-in-loop-i
overflow_mul-product-in-loop-i c =
    let h = c.loop-i-test.true in
    let w = c.loop-i.invariant in
    omega (arith, more-small w h (c.equal_components-before.ensures _ _ (next-part w h) (first_holds w)) (c.component_symmetries-own.ensures _ (next-part w h)))

pub loop-i-preserved : goal.loop-i-preserved
loop-i-preserved c =
    let h = c.loop-i-test.true in
    let w = c.loop-i.invariant in
    counted_next w h (c.equal_components-before.ensures _ _ (next-part w h) (first_holds w)) (c.component_symmetries-own.ensures _ (next-part w h))

pub returns : goal.returns
returns c = counted-end c.loop-i.invariant c.loop-i-test.false
