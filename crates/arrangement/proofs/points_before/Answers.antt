use mathlib.Core.Path.{ap, sym, ◌∙◌}
use Prim.Native.Nat.{compare}
use Rattle.lists.specs.Order.{lex, at_most}
use Rattle.trees.proofs.Walks.{along-start, along-next, next-stretch, along-length}
use Rattle.arrangement.proofs.Inserting.{Exceeds, exceeds-start, exceeds-stop, exceeds-step, exceeds-end}
use native.Mathlib.Omega.{arith}
use Rattle.arrangement.proofs.points_before.Goals as goal

pub loop-p-init : goal.loop-p-init
loop-p-init c = along-start c.requires (Exceeds c.args.tree.now) (exceeds-start c.args.tree.now c.requires.trees)

pub slice_bounds-at_most-end : goal.slice_bounds-at_most-end
slice_bounds-at_most-end c =
    let n = along-next c.loop-p.invariant (omega arith) in
    omega arith

pub returns-then-at_most : goal.returns-then-at_most
returns-then-at_most c =
    let w = c.loop-p.invariant in
    let n = along-next w (omega arith) in
    let r = c.at_most in
    let q = ap (at_most (lex compare) c.args.tree.now) (sym (next-stretch n)) ∙ sym r.ensures ∙ c.if-at_most.true in
    (omega arith, exceeds-stop w n q)

pub loop-p-smaller : goal.loop-p-smaller
loop-p-smaller c =
    let n = along-next c.loop-p.invariant (omega arith) in
    omega arith

pub loop-p-preserved : goal.loop-p-preserved
loop-p-preserved c =
    let w = c.loop-p.invariant in
    let n = along-next w (omega arith) in
    let r = c.at_most in
    let q = ap (at_most (lex compare) c.args.tree.now) (sym (next-stretch n)) ∙ sym r.ensures ∙ c.if-at_most.false in
    exceeds-step w n q

pub returns : goal.returns
returns c = (omega (arith, along-length c.loop-p.invariant), exceeds-end c.loop-p.invariant (omega arith))
