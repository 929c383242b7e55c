use mathlib.Core.Path.{◌∙◌}
use native.Mathlib.Omega.{arith}
use lib.ListN.{length-set}
use Rattle.memory.proofs.Standing.{stands-head}
use Rattle.mapping.proofs.Imaging.{imaging-end, asked-bounds, asked-branch, asked-later, images-next}
use Rattle.mapping.proofs.+tree_images.Goals as goal

pub bounds-out-q : goal.bounds-out-q
bounds-out-q t c = let l = c.loop-q in omega (arith, asked-bounds c.requires, c.requires.room.same, l.invariant.0)

-- a branch stands at the place of the turn
pub tree_images-requires : goal.tree_images-requires
tree_images-requires t c =
    let l = c.loop-q in (
      omega (arith, asked-later c.requires l.invariant.0 l.invariant.1 (omega arith), asked-bounds c.requires, c.decreases),
      asked-branch c.requires l.invariant.0 l.invariant.1 (omega arith) c.args.p,
    )

pub bounds-trees-q : goal.bounds-trees-q
bounds-trees-q t c =
    let l = c.loop-q in
    omega (arith, asked-bounds (asked-branch c.requires l.invariant.0 l.invariant.1 (omega arith) c.args.p))

pub loop-q-smaller : goal.loop-q-smaller
loop-q-smaller t c =
    let l = c.loop-q in
    omega (arith, asked-bounds (asked-branch c.requires l.invariant.0 l.invariant.1 (omega arith) c.args.p))

pub loop-q-preserved : goal.loop-q-preserved
loop-q-preserved t c =
    let l = c.loop-q in
    let call = c.tree_images in (
      call.auto.out ∙ length-set l.out l.q c.args.p ∙ l.invariant.0,
      images-next c.requires l.invariant.0 l.invariant.1 (omega arith) call.new.out call.ensures,
    )

pub returns : goal.returns
returns t c = λ u s. imaging-end (c.loop-q.invariant.1 u s) (omega (arith, stands-head s))
