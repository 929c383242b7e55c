use mathlib.Core.Path.{◌≡◌, ap, ◌∙◌}
use Prim.Native.Nat.{◌+◌, ◌-◌}
use native.Mathlib.Omega.{arith}
use lib.ListN.{length, get_or, take, drop}
use Rattle.patterns.specs.Tree.{size, branches}
use Rattle.patterns.proofs.Trees.{length-code}
use Rattle.trees.proofs.Walks.{inside-end, next-stretch}
use Rattle.counting_theory.specs.Symmetries.{tree_symmetries}
use Rattle.tree_symmetries.proofs.BranchWalks.{counted_start, branches-before, here, turn-within, turn-small, turn-counted, turn-copies, turn-own, turn-product}
use Rattle.tree_symmetries.proofs.+tree_symmetries.Goals as goal

pub loop-at-init : goal.loop-at-init
loop-at-init t c = counted_start c.requires.0

pub slice_bounds-equal_trees-end : goal.slice_bounds-equal_trees-end
slice_bounds-equal_trees-end t c = let n = here c.loop-at.invariant c.loop-at-test.true in omega (arith, n)

-- the branches before the place
pub slice_bounds-equal_trees-count-in-loop-at : goal.slice_bounds-equal_trees-count-in-loop-at
slice_bounds-equal_trees-count-in-loop-at t c = let n = turn-within c.loop-at.invariant c.loop-at-test.true in omega (arith, n)

pub slice_bounds-equal_trees-start-in-loop-at : goal.slice_bounds-equal_trees-start-in-loop-at
slice_bounds-equal_trees-start-in-loop-at t c = let n = turn-within c.loop-at.invariant c.loop-at-test.true in omega (arith, n)

pub equal_trees-before-requires : goal.equal_trees-before-requires
equal_trees-before-requires t c =
    let w = c.loop-at.invariant in
    record { trees = branches w.inside.had; is = branches-before w }

pub tree_symmetries-own-requires : goal.tree_symmetries-own-requires
tree_symmetries-own-requires t c =
    let w = c.loop-at.invariant in
    let n = here w c.loop-at-test.true in
    let s = c.args.s.now in
    let at = c.loop-at.at in
    let length_is : length (take (at + get_or s at 0 - at) (drop at s)) ≡ size n.tree = ap length (next-stretch n) ∙ length-code n.tree in (
      rw length_is (omega (arith, turn-within w c.loop-at-test.true)),
      (record { tree = n.tree; is = next-stretch n }, rw length_is (omega (arith, turn-small w c.loop-at-test.true c.requires.1))),
    )

pub overflow_add-product : goal.overflow_add-product
overflow_add-product t c =
    let w = c.loop-at.invariant in
    let n = here w c.loop-at-test.true in
    let copied = c.equal_trees-before.ensures n.tree (branches w.inside.had) (next-stretch n) (branches-before w) in
    omega (arith, turn-copies w c.loop-at-test.true copied (c.tree_symmetries-own.ensures n.tree (next-stretch n)) c.requires.1)

pub overflow_mul-product : goal.overflow_mul-product
overflow_mul-product t c =
    let w = c.loop-at.invariant in
    let n = here w c.loop-at-test.true in
    let copied = c.equal_trees-before.ensures n.tree (branches w.inside.had) (next-stretch n) (branches-before w) in
    omega (arith, turn-own w c.loop-at-test.true copied (c.tree_symmetries-own.ensures n.tree (next-stretch n)) c.requires.1)

pub overflow_mul-product-in-loop-at : goal.overflow_mul-product-in-loop-at
overflow_mul-product-in-loop-at t c =
    let w = c.loop-at.invariant in
    let n = here w c.loop-at-test.true in
    let copied = c.equal_trees-before.ensures n.tree (branches w.inside.had) (next-stretch n) (branches-before w) in
    omega (arith, turn-product w c.loop-at-test.true copied (c.tree_symmetries-own.ensures n.tree (next-stretch n)) c.requires.1)

pub loop-at-smaller : goal.loop-at-smaller
loop-at-smaller t c = let n = here c.loop-at.invariant c.loop-at-test.true in omega (arith, n)

pub loop-at-preserved : goal.loop-at-preserved
loop-at-preserved t c =
    let w = c.loop-at.invariant in
    let n = here w c.loop-at-test.true in
    let copied = c.equal_trees-before.ensures n.tree (branches w.inside.had) (next-stretch n) (branches-before w) in
    turn-counted w c.loop-at-test.true copied (c.tree_symmetries-own.ensures n.tree (next-stretch n))

pub returns : goal.returns
returns t c =
    let i = c.loop-at.invariant.inside in
    λ u e. i.kept ∙ ap tree_symmetries (inside-end i (omega arith) u e)
