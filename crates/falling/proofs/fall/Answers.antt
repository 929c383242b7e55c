use native.Mathlib.Omega.{arith}
use Rattle.bumping.proofs.Turns.{turn-size, turn-place, turn-ahead}
use Rattle.falling.proofs.Falling.{fall-start, fall-reached, fall-component, fall-repeated, fall-next, fall-found}
use Rattle.falling.proofs.fall.Goals as goal
use Rattle.falling.proofs.fall.Goals.{else-not-repeats-via-then-not-repeats+else-retreat, else-not-repeats-via-else-not-repeats}

pub loop-i-init : goal.loop-i-init
loop-i-init c = fall-start

pub overflow_sub-at : goal.overflow_sub-at
overflow_sub-at c = turn-size c.requires (fall-reached c.requires c.loop-i.invariant) (omega arith)

pub repeats-requires : goal.repeats-requires
repeats-requires c = fall-component c.requires c.loop-i.invariant (omega arith)

pub slice_bounds-retreat-count-then-not-repeats : goal.slice_bounds-retreat-count-then-not-repeats
slice_bounds-retreat-count-then-not-repeats c = turn-place c.requires (fall-reached c.requires c.loop-i.invariant) (omega arith)

pub slice_bounds-retreat-start-then-not-repeats : goal.slice_bounds-retreat-start-then-not-repeats
slice_bounds-retreat-start-then-not-repeats c = turn-place c.requires (fall-reached c.requires c.loop-i.invariant) (omega arith)

pub retreat-requires : goal.retreat-requires
retreat-requires c =
    let same = c.loop-i.auto in
    turn-ahead c.requires (fall-reached c.requires c.loop-i.invariant) (omega arith) _ _ _ same.up same.side same.out

pub returns-then-retreat : goal.returns-then-retreat
returns-then-retreat c =
    let b = c.repeats in
    λ S h.
    fall-found c.requires c.loop-i.invariant (omega arith) b.result b.ensures c.if-not-repeats.true _ _ c.retreat.ensures S h c.if-retreat.true

pub loop-i-preserved : goal.loop-i-preserved
loop-i-preserved c =
    let b = c.repeats in
    let w = c.loop-i.invariant in
    λ S h.
    elim c.else-not-repeats.branch [
      | else-not-repeats-via-then-not-repeats+else-retreat v ↦
          rw v.trees-is (fall-next c.requires w (omega arith) b.result b.ensures v.if-not-repeats.true _ _ v.retreat.ensures S h v.if-retreat.false)
      | else-not-repeats-via-else-not-repeats v ↦
          rw v.trees-is (fall-repeated c.requires w (omega arith) b.result b.ensures S h v.if-not-repeats.false)
    ]
