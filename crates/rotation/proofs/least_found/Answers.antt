use mathlib.Core.Path.{sym, ◌∙◌}
use Rattle.trees.proofs.Walks.{along-start, along-next}
use Rattle.rotation.proofs.LeastTurn.{Best, best-start, best-within, best-kept, best-moved, best-end}
use native.Mathlib.Omega.{arith}
use Rattle.rotation.proofs.least_found.Goals.{then-not-at_most_between, else-not-at_most_between}
use Rattle.rotation.proofs.least_found.Goals as goal

pub loop-p-init : goal.loop-p-init
loop-p-init c =
    let h = c.requires in
    along-start h (Best 0) (best-start h.trees)

pub at_most_between-requires : goal.at_most_between-requires
at_most_between-requires c = (best-within c.loop-p.invariant, omega arith)

pub overflow_add-p : goal.overflow_add-p
overflow_add-p c =
    let n = along-next c.loop-p.invariant (omega arith) in
    omega arith

pub loop-p-smaller : goal.loop-p-smaller
loop-p-smaller c =
    let n = along-next c.loop-p.invariant (omega arith) in
    omega arith

pub loop-p-preserved : goal.loop-p-preserved
loop-p-preserved c =
    let w = c.loop-p.invariant in
    let n = along-next w (omega arith) in
    let e = sym c.at_most_between.ensures in
    elim c.if-not-at_most_between.branch [
      | then-not-at_most_between v ↦ rw v.best-is (best-moved w n (e ∙ v.if-not-at_most_between.true))
      | else-not-at_most_between v ↦ rw v.best-is (best-kept w n (e ∙ v.if-not-at_most_between.false))
    ]

pub returns : goal.returns
returns c = best-end c.loop-p.invariant (omega arith)
