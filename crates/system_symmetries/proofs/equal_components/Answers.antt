use mathlib.Core.Path.{sym, ◌∙◌}
use native.Mathlib.Omega.{arith}
use Rattle.system_symmetries.proofs.EqualComponents.{next-within, equal_next, other-next, equal-end}
use Rattle.system_symmetries.proofs.equal_components.Goals as goal
use Rattle.system_symmetries.proofs.equal_components.Goals.{then-equal, else-equal}

-- The component at the place ends within the trees; it has been compared.
pub overflow_add-end : goal.overflow_add-end
overflow_add-end c = omega (arith, next-within c.loop-size.invariant c.loop-size-test.true)

pub slice_bounds-equal-end : goal.slice_bounds-equal-end
slice_bounds-equal-end c = omega (arith, next-within c.loop-size.invariant c.loop-size-test.true)

pub loop-size-preserved : goal.loop-size-preserved
loop-size-preserved c =
    let l = c.loop-size.invariant in
    elim c.if-equal.branch [
      | then-equal w ↦ rw (w.n-is, w.at-is) (equal_next l c.loop-size-test.true (sym c.equal.ensures ∙ w.if-equal.true))
      | else-equal w ↦ rw (w.n-is, w.at-is) (other-next l c.loop-size-test.true (sym c.equal.ensures ∙ w.if-equal.false))
    ]

pub returns : goal.returns
returns c = equal-end c.loop-size.invariant c.loop-size-test.false
