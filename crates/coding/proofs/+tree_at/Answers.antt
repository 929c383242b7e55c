use Prim.Native.Nat.{◌-◌}
use native.Mathlib.Omega.{arith}
use Rattle.coding.proofs.Growing.{growing-start, growing-end}
use Rattle.coding.proofs.Growing.{growing-bound, growing-trees, growing-labels, growing-asked, growing-siblings, growing-take, growing-less}
use Rattle.coding.proofs.+tree_at.Goals as goal

pub loop-y-init : goal.loop-y-init
loop-y-init t c = λ f a. growing-start a

pub overflow_sub-left : goal.overflow_sub-left
overflow_sub-left t c =
    let a = c.requires.asked in
    omega (arith, growing-bound a (c.loop-y.invariant _ a))

pub tree_at-next-requires : goal.tree_at-next-requires
tree_at-next-requires t c =
    let a = c.requires.asked in
    let g = c.loop-y.invariant _ a in
    (omega (arith, growing-bound a g), record { of = c.requires.of; asked = growing-asked a g (c.loop-y.y - 1) (omega arith) })

pub insert_tree-requires : goal.insert_tree-requires
insert_tree-requires t c =
    let a = c.requires.asked in
    let g = c.loop-y.invariant _ a in
    let z = c.loop-y.y - 1 in
    growing-siblings a g z (omega arith) (c.tree_at-next.ensures _ (growing-asked a g z (omega arith)))

pub loop-y-smaller : goal.loop-y-smaller
loop-y-smaller t c =
    let a = c.requires.asked in
    growing-less a (c.loop-y.invariant _ a) (c.loop-y.y - 1) (omega arith)

pub loop-y-preserved : goal.loop-y-preserved
loop-y-preserved t c =
    λ f a.
    let g = c.loop-y.invariant f a in
    let z = c.loop-y.y - 1 in
    growing-take a g z (omega arith) (c.tree_at-next.ensures f (growing-asked a g z (omega arith))) c.insert_tree.ensures

pub overflow_cast-trees : goal.overflow_cast-trees
overflow_cast-trees t c =
    let a = c.requires.asked in
    omega (arith, growing-bound a (c.loop-y.invariant _ a), a.prepared.small)

pub bounds-trees-at : goal.bounds-trees-at
bounds-trees-at t c =
    let a = c.requires.asked in
    let g = c.loop-y.invariant _ a in
    omega (arith, growing-bound a g, growing-trees a g)

pub bounds-labels-at : goal.bounds-labels-at
bounds-labels-at t c =
    let a = c.requires.asked in
    let g = c.loop-y.invariant _ a in
    omega (arith, growing-bound a g, growing-labels a g)

pub returns : goal.returns
returns t c = λ f a. growing-end a (c.loop-y.invariant f a) (omega arith)
