use native.Mathlib.Omega.{arith}
use Rattle.greatest_period_entry.proofs.Choosing.{choosing-start, choosing-within, choosing-points, choosing-take, choosing-pass, choosing-room, choosing-end}
use Rattle.greatest_period_entry.proofs.put_lengths.Goals as goal
use Rattle.greatest_period_entry.proofs.put_lengths.Goals.{then-mask-eq1, else-mask-eq1}

pub loop-k-init : goal.loop-k-init
loop-k-init c = choosing-start c.args.n c.requires.0 c.requires.1 (c.fill.ensures.after (λ y e. e)) c.mask_of-mask.ensures

pub bounds-sizes-at : goal.bounds-sizes-at
bounds-sizes-at c = let w = c.loop-k.invariant in omega (arith, w.places, w.long, choosing-within w)

pub overflow_sub-left : goal.overflow_sub-left
overflow_sub-left c = rw c.from-left.ensures (choosing-points c.loop-k.invariant (omega arith) (omega arith))

pub loop-k-preserved : goal.loop-k-preserved
loop-k-preserved c =
    let w = c.loop-k.invariant in
    elim c.if-mask-eq1.branch [
      | then-mask-eq1 v ↦ rw (v.sizes-is, v.at-is, v.left-is, v.from-left.ensures) (choosing-take w (omega arith) v.if-mask-eq1.true)
      | else-mask-eq1 v ↦ rw (v.sizes-is, v.at-is, v.left-is) (choosing-pass w (omega arith) v.if-mask-eq1.false)
    ]

pub overflow_sub-result : goal.overflow_sub-result
overflow_sub-result c = choosing-room c.loop-k.invariant

pub returns : goal.returns
returns c = choosing-end c.loop-k.invariant (omega arith)
