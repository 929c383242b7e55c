use mathlib.Core.Path.{◌≡◌, refl, ap, ◌∙◌}
use Prim.Native.Nat.{◌+◌, ◌*◌, ◌≤◌}
use native.Mathlib.Omega.{arith}
use lib.ListN.{length}
use Rattle.patterns.specs.Tree.{size}
use Rattle.patterns.specs.Component.{points}
use Rattle.patterns.proofs.Trees.{length-code}
use Rattle.trees.proofs.Walks.{Next, along-start, along-next, along-step, along-end, next-stretch}
use Rattle.counting_theory.specs.Symmetries.{tree_symmetries}
use Rattle.tree_symmetries.proofs.CycleWalks.{Multiplied, multiplied, multiplied-small}
use Rattle.tree_symmetries.proofs.trees_symmetries.Goals as goal

pub loop-at-init : goal.loop-at-init
loop-at-init c = along-start c.requires.0 (Multiplied 1) refl

pub slice_bounds-tree_symmetries-end : goal.slice_bounds-tree_symmetries-end
slice_bounds-tree_symmetries-end c =
    let here : Next c.args.s.now c.loop-at.at c.loop-at.invariant.rest = along-next c.loop-at.invariant (omega arith) in
    omega (arith, here)

pub tree_symmetries-product-requires : goal.tree_symmetries-product-requires
tree_symmetries-product-requires c =
    let here : Next c.args.s.now c.loop-at.at c.loop-at.invariant.rest = along-next c.loop-at.invariant (omega arith) in
    let small : points c.loop-at.invariant.ahead + size here.tree ≤ 15 = omega (arith, here.fits, c.loop-at.invariant.place, c.requires.1) in
    let n = here in
    (record { tree = n.tree; is = next-stretch n }, rw (ap length (next-stretch n) ∙ length-code n.tree) (omega (arith, small)))

pub overflow_mul-product : goal.overflow_mul-product
overflow_mul-product c =
    let here : Next c.args.s.now c.loop-at.at c.loop-at.invariant.rest = along-next c.loop-at.invariant (omega arith) in
    let small : points c.loop-at.invariant.ahead + size here.tree ≤ 15 = omega (arith, here.fits, c.loop-at.invariant.place, c.requires.1) in
    let inner : c.tree_symmetries-product.result ≡ tree_symmetries here.tree = let n = here in c.tree_symmetries-product.ensures n.tree (next-stretch n) in
    omega (arith, multiplied-small c.loop-at.invariant.ahead here.tree c.loop-at.invariant.kept inner small)

pub loop-at-smaller : goal.loop-at-smaller
loop-at-smaller c =
    let here : Next c.args.s.now c.loop-at.at c.loop-at.invariant.rest = along-next c.loop-at.invariant (omega arith) in
    omega (arith, here)

pub loop-at-preserved : goal.loop-at-preserved
loop-at-preserved c =
    let here : Next c.args.s.now c.loop-at.at c.loop-at.invariant.rest = along-next c.loop-at.invariant (omega arith) in
    let inner : c.tree_symmetries-product.result ≡ tree_symmetries here.tree = let n = here in c.tree_symmetries-product.ensures n.tree (next-stretch n) in
    along-step c.loop-at.invariant here (Multiplied (c.loop-at.product * c.tree_symmetries-product.result))
    (multiplied c.loop-at.invariant.ahead here.tree c.loop-at.invariant.kept inner)

pub returns : goal.returns
returns c = λ d e. along-end c.loop-at.invariant (omega arith) d e
