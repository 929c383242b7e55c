use native.Mathlib.Omega.{arith}
use lib.ListN.{length-take, take}
use Rattle.patterns.specs.System.{System}
use Rattle.memory.specs.Memory.{Holds}
use Rattle.paging.proofs.Paged.{Advanced, next_written, paged-next, paged-all, paged-last, measured-start, measured-next, measured-fits, measured-all, page-small}
use Rattle.paging.proofs.length.page_length.Goals as goal
use Rattle.paging.proofs.length.page_length.Goals.{In-Some}

-- one code more, after the system that was in memory
stepped : (c : In-Some) (S : System) (h : Holds S (take c.args.m c.args.sizes.now) c.args.trees.now)
    → Advanced S c.args.wanted c.loop.counter (c.loop.invariant S h).made c.follow.new.sizes c.in-Some.count c.follow.new.trees
stepped c S h =
    paged-next (c.loop.invariant S h).paged c.follow.result c.follow.new.sizes c.follow.new.trees c.follow.ensures c.in-Some.count c.in-Some.is c.follow.auto.sizes
    (omega arith)

pub loop-init : goal.loop-init
loop-init c = measured-start c.requires

pub follow-requires : goal.follow-requires
follow-requires c = (c.loop.invariant c.requires.held.system c.requires.held.holds).paged.held

pub returns-in_default : goal.returns-in_default
returns-in_default c =
    λ S h.
    let w = c.loop.invariant S h in
    measured-all w (paged-last w.paged c.follow.result c.follow.new.sizes c.follow.new.trees c.follow.ensures c.in_default.is)

pub slice_bounds-sizes-end : goal.slice_bounds-sizes-end
slice_bounds-sizes-end c = (stepped (goal.at.slice_bounds-sizes-end c).In-Some c.requires.held.system c.requires.held.holds).held.within

pub slice_bounds-sizes-end-in-loop : goal.slice_bounds-sizes-end-in-loop
slice_bounds-sizes-end-in-loop c =
    let fits = (stepped (goal.at.slice_bounds-sizes-end-in-loop c).In-Some c.requires.held.system c.requires.held.holds).held.within in
    rw length-take (omega arith)

pub invariant_of-length : goal.invariant_of-length
invariant_of-length c = record { held = next_written (stepped (goal.at.invariant_of-length c).In-Some c.requires.held.system c.requires.held.holds).held }

pub overflow_add-bytes : goal.overflow_add-bytes
overflow_add-bytes c =
    let S = c.requires.held.system in
    let h = c.requires.held.holds in
    let a = stepped (goal.at.overflow_add-bytes c).In-Some S h in
    let e = c.length-bytes.ensures a.held.system a.held.holds in
    omega (arith, measured-fits (c.loop.invariant S h) a e, page-small c.requires S h)

pub loop-preserved : goal.loop-preserved
loop-preserved c =
    λ S h.
    let a = stepped (goal.at.loop-preserved c).In-Some S h in
    measured-next (c.loop.invariant S h) a (c.length-bytes.ensures a.held.system a.held.holds)

pub returns : goal.returns
returns c = λ S h. let w = c.loop.invariant S h in measured-all w (paged-all w.paged (omega arith))
