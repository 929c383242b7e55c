use mathlib.Core.Path.{refl}
use native.Mathlib.Omega.{arith}
use lib.ListN.{length-take, take}
use Rattle.patterns.specs.System.{System}
use Rattle.memory.specs.Memory.{Holds}
use Rattle.paging.proofs.Paged.{Advanced, next_written, paged-next, paged-all, paged-last, writing_start, writing-put, writing-room, writing-next}
use Rattle.paging.proofs.bytes.write_page.Goals as goal
use Rattle.paging.proofs.bytes.write_page.Goals.{In-Some}

-- one code more, after the system that was in memory
stepped : (c : In-Some) (S : System) (h : Holds S (take c.args.m c.args.sizes.now) c.args.trees.now)
    → Advanced S c.args.wanted c.loop-i.i (c.loop-i.invariant S h).made c.follow.new.sizes c.in-Some.count c.follow.new.trees
stepped c S h =
    paged-next (c.loop-i.invariant S h).paged c.follow.result c.follow.new.sizes c.follow.new.trees c.follow.ensures c.in-Some.count c.in-Some.is c.follow.auto.sizes
    (omega arith)

pub loop-i-init : goal.loop-i-init
loop-i-init c = writing_start c.requires

-- the page so far, of the system that was in memory
pub follow-requires : goal.follow-requires
follow-requires c = (c.loop-i.invariant c.requires.held.system c.requires.held.holds).paged.held

pub returns-in_default : goal.returns-in_default
returns-in_default c =
    λ S h.
    let w = c.loop-i.invariant S h in
    writing-put w refl (paged-last w.paged c.follow.result c.follow.new.sizes c.follow.new.trees c.follow.ensures c.in_default.is)

pub slice_bounds-sizes-end : goal.slice_bounds-sizes-end
slice_bounds-sizes-end c = (stepped (goal.at.slice_bounds-sizes-end c).In-Some c.requires.held.system c.requires.held.holds).held.within

pub slice_bounds-sizes-end-in-loop-i : goal.slice_bounds-sizes-end-in-loop-i
slice_bounds-sizes-end-in-loop-i c =
    let fits = (stepped (goal.at.slice_bounds-sizes-end-in-loop-i c).In-Some c.requires.held.system c.requires.held.holds).held.within in
    rw length-take (omega arith)

pub invariant_of-write : goal.invariant_of-write
invariant_of-write c = record { held = next_written (stepped (goal.at.invariant_of-write c).In-Some c.requires.held.system c.requires.held.holds).held }

pub write-at-requires : goal.write-at-requires
write-at-requires c =
    writing-room (c.loop-i.invariant c.requires.held.system c.requires.held.holds)
    (stepped (goal.at.write-at-requires c).In-Some c.requires.held.system c.requires.held.holds)

pub loop-i-preserved : goal.loop-i-preserved
loop-i-preserved c =
    λ S h.
    let a = stepped (goal.at.loop-i-preserved c).In-Some S h in
    writing-next (c.loop-i.invariant S h) a (c.write-at.ensures a.held.system a.held.holds)

pub returns : goal.returns
returns c = λ S h. let w = c.loop-i.invariant S h in writing-put w (omega (arith, w.paged.within)) (paged-all w.paged (omega arith))
