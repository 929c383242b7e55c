use mathlib.Core.Path.{refl, sym, ◌∙◌}
use native.Mathlib.Omega.{arith}
use lib.Seq.{length-take-le}
use Rattle.bumping.proofs.Advancing.{front_fits, front_length, ahead-some, ahead-fits, ahead-sum, ahead-length, ahead-up, ahead-side, ahead-out, ahead-node}
use Rattle.falling.proofs.Retreating.{retreat-none, retreat-some}
use Rattle.falling.proofs.retreat.Goals as goal

pub bounds-sizes-0 : goal.bounds-sizes-0
bounds-sizes-0 c = ahead-some c.requires.holds

pub slice_bounds-predecessor-end : goal.slice_bounds-predecessor-end
slice_bounds-predecessor-end c = ahead-fits c.requires.holds

pub slice_bounds-predecessor-end-2 : goal.slice_bounds-predecessor-end-2
slice_bounds-predecessor-end-2 c = sym (ahead-length c.requires)

pub slice_bounds-predecessor-end-3 : goal.slice_bounds-predecessor-end-3
slice_bounds-predecessor-end-3 c = let w = c.requires in omega (arith, ahead-fits w.holds, w.work.up_room)

pub slice_bounds-predecessor-end-4 : goal.slice_bounds-predecessor-end-4
slice_bounds-predecessor-end-4 c = sym (ahead-up c.requires)

pub slice_bounds-predecessor-end-5 : goal.slice_bounds-predecessor-end-5
slice_bounds-predecessor-end-5 c = let w = c.requires in omega (arith, ahead-fits w.holds, w.work.side_room)

pub slice_bounds-predecessor-end-6 : goal.slice_bounds-predecessor-end-6
slice_bounds-predecessor-end-6 c = sym (ahead-side c.requires)

pub slice_bounds-predecessor-end-7 : goal.slice_bounds-predecessor-end-7
slice_bounds-predecessor-end-7 c = let w = c.requires in omega (arith, ahead-fits w.holds, w.work.out_room)

pub slice_bounds-predecessor-end-8 : goal.slice_bounds-predecessor-end-8
slice_bounds-predecessor-end-8 c = sym (ahead-out c.requires)

pub predecessor-requires : goal.predecessor-requires
predecessor-requires c =
    let w = c.requires in
    let n = sym (ahead-length w) in
    (ahead-node w, ahead-out w ∙ n, ahead-up w ∙ n, ahead-side w ∙ n)

pub returns-then-not-predecessor : goal.returns-then-not-predecessor
returns-then-not-predecessor c = retreat-none c.requires c.predecessor.result _ c.predecessor.ensures c.if-not-predecessor.true

pub last_right-requires : goal.last_right-requires
last_right-requires c = ahead-sum c.requires.holds

pub slice_bounds-copy_from_slice-end : goal.slice_bounds-copy_from_slice-end
slice_bounds-copy_from_slice-end c = omega (arith, ahead-fits c.requires.holds, c.last_right.auto.trees)

pub slice_bounds-copy_from_slice-end-2 : goal.slice_bounds-copy_from_slice-end-2
slice_bounds-copy_from_slice-end-2 c =
    sym (length-take-le _ c.last_right.new.trees (omega (arith, ahead-fits c.requires.holds, c.last_right.auto.trees)))

pub slice_bounds-copy_from_slice-end-3 : goal.slice_bounds-copy_from_slice-end-3
slice_bounds-copy_from_slice-end-3 c = front_fits _ c.predecessor.new.out _ (c.predecessor.auto.out ∙ ahead-out c.requires)

pub slice_bounds-copy_from_slice-end-4 : goal.slice_bounds-copy_from_slice-end-4
slice_bounds-copy_from_slice-end-4 c = front_length _ c.predecessor.new.out _ (c.predecessor.auto.out ∙ ahead-out c.requires)

pub copy_from_slice-requires : goal.copy_from_slice-requires
copy_from_slice-requires c =
    length-take-le _ c.last_right.new.trees (omega (arith, ahead-fits c.requires.holds, c.last_right.auto.trees))
    ∙ front_length _ c.predecessor.new.out _ (c.predecessor.auto.out ∙ ahead-out c.requires)

pub returns : goal.returns
returns c =
    retreat-some c.requires c.predecessor.result _ c.predecessor.ensures c.if-not-predecessor.false _ _ _ _ c.copy_from_slice.ensures.after
    c.last_right.ensures refl
