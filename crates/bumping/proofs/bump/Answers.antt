use native.Mathlib.Omega.{arith}
use Rattle.bumping.proofs.Turns.{turn-size, turn-place, turn-ahead}
use Rattle.bumping.proofs.Scanning.{bump-start, bump-reached, bump-next, bump-found}
use Rattle.bumping.proofs.bump.Goals as goal

pub loop-i-init : goal.loop-i-init
loop-i-init c = bump-start

pub overflow_sub-at : goal.overflow_sub-at
overflow_sub-at c = turn-size c.requires (bump-reached c.requires c.loop-i.invariant) (omega arith)

pub slice_bounds-advance-count-in-loop-i : goal.slice_bounds-advance-count-in-loop-i
slice_bounds-advance-count-in-loop-i c = turn-place c.requires (bump-reached c.requires c.loop-i.invariant) (omega arith)

pub slice_bounds-advance-start-in-loop-i : goal.slice_bounds-advance-start-in-loop-i
slice_bounds-advance-start-in-loop-i c = turn-place c.requires (bump-reached c.requires c.loop-i.invariant) (omega arith)

pub advance-requires : goal.advance-requires
advance-requires c =
    let same = c.loop-i.auto in
    turn-ahead c.requires (bump-reached c.requires c.loop-i.invariant) (omega arith) _ _ _ same.up same.side same.out

pub returns-then-advance : goal.returns-then-advance
returns-then-advance c =
    λ S h. bump-found c.requires c.loop-i.invariant (omega arith) _ _ c.advance.ensures S h c.if-advance.true

pub loop-i-preserved : goal.loop-i-preserved
loop-i-preserved c =
    λ S h. bump-next c.requires c.loop-i.invariant (omega arith) _ _ c.advance.ensures S h c.if-advance.false
