use mathlib.Core.Path.{refl, ◌∙◌}
use Prim.Native.Nat.{◌+◌}
use lib.ListN.{get_or, length-set}
use Rattle.mapping.proofs.CycleImages.{root_image-bound, rounding-start, rounding-end, asked-tree, component-bounds, component-fits, trees-next}
use native.Mathlib.Omega.{arith}
use Rattle.mapping.proofs.cycle_images.Goals as goal

pub loop-p-init : goal.loop-p-init
loop-p-init c = let a = c.args in (refl, λ d s g. rounding-start d a.start a.end a.out.now)

pub bounds-trees-p : goal.bounds-trees-p
bounds-trees-p c =
    let l = c.loop-p in
    omega (arith, component-bounds c.requires l.invariant.0 l.invariant.1 (omega arith))

pub overflow_cast-out : goal.overflow_cast-out
overflow_cast-out c =
    let l = c.loop-p in
    let b = component-bounds c.requires l.invariant.0 l.invariant.1 (omega arith) in
    let q = l.p + get_or c.args.trees.now l.p 0 in
    omega (arith, c.root_image.ensures, root_image-bound c.args.start c.args.end q 200 (omega (arith, component-fits c.requires l.invariant.0 l.invariant.1 (omega arith), c.requires.room.same, c.requires.ends)) (omega arith))

pub bounds-out-p : goal.bounds-out-p
bounds-out-p c =
    let l = c.loop-p in
    omega (arith, component-bounds c.requires l.invariant.0 l.invariant.1 (omega arith), c.requires.room.same)

pub tree_images-requires : goal.tree_images-requires
tree_images-requires c =
    let l = c.loop-p in
    asked-tree c.requires l.invariant.0 l.invariant.1 (omega arith) c.root_image.result

pub loop-p-smaller : goal.loop-p-smaller
loop-p-smaller c =
    let l = c.loop-p in
    omega (arith, component-bounds c.requires l.invariant.0 l.invariant.1 (omega arith))

pub loop-p-preserved : goal.loop-p-preserved
loop-p-preserved c =
    let l = c.loop-p in
    let x = c.root_image in
    let call = c.tree_images in (
      call.auto.out ∙ length-set l.out l.p x.result ∙ l.invariant.0,
      trees-next c.requires l.invariant.0 l.invariant.1 (omega arith) x.result call.new.out x.ensures call.ensures,
    )

pub returns : goal.returns
returns c = λ d s g. rounding-end (c.loop-p.invariant.1 d s g) g (omega arith)
