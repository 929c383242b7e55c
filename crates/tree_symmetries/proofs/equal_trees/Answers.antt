use mathlib.Core.Path.{◌≡◌, sym, ◌∙◌, ap}
use Prim.Native.Nat.{◌+◌, compare}
use native.Mathlib.Omega.{arith}
use Rattle.lists.specs.Order.{lex, same}
use Rattle.patterns.specs.Tree.{code}
use Rattle.component_theory.proofs.Generation.{length-points}
use Rattle.trees.proofs.Walks.{Next, along-start, along-next, along-step, along-end, next-stretch}
use Rattle.tree_symmetries.proofs.EqualTrees.{EqualAhead, none_ahead, one_more, no_more}
use Rattle.tree_symmetries.proofs.equal_trees.Goals as goal

pub loop-at-init : goal.loop-at-init
loop-at-init c =
    let a = c.args in
    let h = c.requires in
    along-start h (EqualAhead a.tree.now 0) (none_ahead a.tree.now h.trees)

pub slice_bounds-equal-end : goal.slice_bounds-equal-end
slice_bounds-equal-end c =
    let here : Next c.args.row.now c.loop-at.at c.loop-at.invariant.rest = along-next c.loop-at.invariant (omega arith) in
    omega (arith, here)

pub overflow_add-n : goal.overflow_add-n
overflow_add-n c =
    let w = c.loop-at.invariant in
    omega (arith, w.kept.fewer, length-points w.ahead, w.place)

pub loop-at-smaller-then-equal : goal.loop-at-smaller-then-equal
loop-at-smaller-then-equal c =
    let here : Next c.args.row.now c.loop-at.at c.loop-at.invariant.rest = along-next c.loop-at.invariant (omega arith) in
    omega (arith, here)

pub loop-at-preserved-then-equal : goal.loop-at-preserved-then-equal
loop-at-preserved-then-equal c =
    let here : Next c.args.row.now c.loop-at.at c.loop-at.invariant.rest = along-next c.loop-at.invariant (omega arith) in
    let compared : c.equal.result ≡ same (lex compare) c.args.tree.now (code here.tree) = c.equal.ensures ∙ ap (same (lex compare) c.args.tree.now) (next-stretch here) in
    let w = c.loop-at.invariant in
    let n = here in
    along-step w n (EqualAhead c.args.tree.now (c.loop-at.n + 1))
    (one_more w.kept n.tree n.later (sym compared ∙ c.if-equal.true))

pub loop-at-smaller : goal.loop-at-smaller
loop-at-smaller c =
    let here : Next c.args.row.now c.loop-at.at c.loop-at.invariant.rest = along-next c.loop-at.invariant (omega arith) in
    omega (arith, here)

pub loop-at-preserved : goal.loop-at-preserved
loop-at-preserved c =
    let here : Next c.args.row.now c.loop-at.at c.loop-at.invariant.rest = along-next c.loop-at.invariant (omega arith) in
    let compared : c.equal.result ≡ same (lex compare) c.args.tree.now (code here.tree) = c.equal.ensures ∙ ap (same (lex compare) c.args.tree.now) (next-stretch here) in
    let w = c.loop-at.invariant in
    let n = here in
    along-step w n (EqualAhead c.args.tree.now c.loop-at.n)
    (no_more w.kept n.tree n.later (sym compared ∙ c.if-equal.false))

pub returns : goal.returns
returns c = λ t d e f. (along-end c.loop-at.invariant (omega arith) d f).count t e
