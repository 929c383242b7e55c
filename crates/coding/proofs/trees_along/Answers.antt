use Rattle.coding.proofs.Circling.{circling-first, circling-start, circling-bound, circling-end, circling-asked, circling-less, circling-next}
use Rattle.coding.proofs.trees_along.Goals as goal

pub tree_at-end-requires : goal.tree_at-end-requires
tree_at-end-requires c = record { of = c.args.f.now; asked = circling-first c.requires }

pub loop-y-init : goal.loop-y-init
loop-y-init c = λ d e a w. circling-start a w

pub overflow_sub-n-in-loop-y : goal.overflow_sub-n-in-loop-y
overflow_sub-n-in-loop-y c =
    let asked = c.requires in
    let circling = c.loop-y.invariant _ _ asked (c.tree_at-end.ensures _ (circling-first asked)) in
    circling-bound asked circling

pub tree_at-end-requires-in-loop-y : goal.tree_at-end-requires-in-loop-y
tree_at-end-requires-in-loop-y c =
    let asked = c.requires in
    let circling = c.loop-y.invariant _ _ asked (c.tree_at-end.ensures _ (circling-first asked)) in
    record { of = c.args.f.now; asked = circling-asked asked circling c.loop-y-test.true }

pub bounds-f-y : goal.bounds-f-y
bounds-f-y c =
    let asked = c.requires in
    let circling = c.loop-y.invariant _ _ asked (c.tree_at-end.ensures _ (circling-first asked)) in
    circling.here

pub loop-y-smaller : goal.loop-y-smaller
loop-y-smaller c =
    let asked = c.requires in
    let circling = c.loop-y.invariant _ _ asked (c.tree_at-end.ensures _ (circling-first asked)) in
    circling-less asked circling c.loop-y-test.true (c.tree_at-end-in-loop-y.ensures _ (circling-asked asked circling c.loop-y-test.true))

pub loop-y-preserved : goal.loop-y-preserved
loop-y-preserved c =
    λ d e a r.
    let g = c.loop-y.invariant d e a r in
    circling-next a g c.loop-y-test.true (c.tree_at-end-in-loop-y.ensures _ (circling-asked a g c.loop-y-test.true))

pub returns : goal.returns
returns c =
    let asked = c.requires in
    let circling = c.loop-y.invariant _ _ asked (c.tree_at-end.ensures _ (circling-first asked)) in
    circling-end asked circling c.loop-y-test.false
