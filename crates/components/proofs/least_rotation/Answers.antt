use mathlib.Core.Path.{sym, ap, ◌∙◌}
use native.Mathlib.Omega.{arith}
use Rattle.lists.specs.Blocks.{ordering_of}
use Rattle.trees.proofs.Walks.{along-next}
use Rattle.components.proofs.OnePass.{none-less, kept-behind, kept-within, old-tree, kept-equal, kept-greater, kept-smaller, period-some, kept-told}
use Rattle.components.proofs.least_rotation.Goals as goal

pub returns-then-is_empty : goal.returns-then-is_empty
returns-then-is_empty c = λ d e. none-less c.args.s.now (grind arith) d e

pub loop-at-init : goal.loop-at-init
loop-at-init c = kept-behind c.requires (grind arith) c.leading.result c.max-at.result c.leading.ensures c.max-at.ensures

pub overflow_sub-back : goal.overflow_sub-back
overflow_sub-back c = kept-within c.loop-at.invariant

pub bounds-s-back : goal.bounds-s-back
bounds-s-back c =
    let p = period-some c.loop-at.invariant in
    omega (arith, kept-within c.loop-at.invariant)

pub overflow_add-old : goal.overflow_add-old
overflow_add-old c =
    let that = old-tree c.loop-at.invariant (omega arith) in
    omega arith

pub overflow_add-end : goal.overflow_add-end
overflow_add-end c =
    let this = along-next c.loop-at.invariant (omega arith) in
    omega arith

pub slice_bounds-compare-end : goal.slice_bounds-compare-end
slice_bounds-compare-end c =
    let that = old-tree c.loop-at.invariant (omega arith) in
    omega arith

pub slice_bounds-compare-end-in-loop-at : goal.slice_bounds-compare-end-in-loop-at
slice_bounds-compare-end-in-loop-at c =
    let this = along-next c.loop-at.invariant (omega arith) in
    omega arith

pub returns-in-Greater : goal.returns-in-Greater
returns-in-Greater c =
    let w = c.loop-at.invariant in
    λ d e. kept-smaller w (along-next w (omega arith)) (old-tree w (omega arith)) (sym c.compare.ensures ∙ ap ordering_of c.in-Greater.is) d e

pub loop-at-smaller-in-Less : goal.loop-at-smaller-in-Less
loop-at-smaller-in-Less c =
    let this = along-next c.loop-at.invariant (omega arith) in
    omega arith

pub loop-at-preserved-in-Less : goal.loop-at-preserved-in-Less
loop-at-preserved-in-Less c =
    let w = c.loop-at.invariant in
    kept-greater w (along-next w (omega arith)) (old-tree w (omega arith)) (sym c.compare.ensures ∙ ap ordering_of c.in-Less.is)

pub loop-at-smaller : goal.loop-at-smaller
loop-at-smaller c =
    let this = along-next c.loop-at.invariant (omega arith) in
    omega arith

pub loop-at-preserved : goal.loop-at-preserved
loop-at-preserved c =
    let w = c.loop-at.invariant in
    kept-equal w (along-next w (omega arith)) (old-tree w (omega arith)) (sym c.compare.ensures ∙ ap ordering_of c.in-Equal.is)

pub nonzero_rem-s : goal.nonzero_rem-s
nonzero_rem-s c = period-some c.loop-at.invariant

pub nonzero_div-turns : goal.nonzero_div-turns
nonzero_div-turns c = period-some c.loop-at.invariant

pub returns : goal.returns
returns c = λ d e. c.then_some.ensures ∙ kept-told c.loop-at.invariant (omega arith) d e
