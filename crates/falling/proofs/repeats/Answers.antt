use native.Mathlib.Omega.{arith}
use Rattle.falling.proofs.Repeating.{repeats-first, component-fits, repeats-size, left-fits, repeats-trees}
use Rattle.falling.proofs.repeats.Goals as goal

pub returns-then-i-eq0 : goal.returns-then-i-eq0
returns-then-i-eq0 c = repeats-first c.requires (omega arith)

pub returns-then-sizes-i : goal.returns-then-sizes-i
returns-then-sizes-i c = repeats-size c.requires (omega arith) (λ e. omega arith)

pub overflow_sub-at : goal.overflow_sub-at
overflow_sub-at c = left-fits c.requires (omega arith) (omega arith)

pub slice_bounds-equal-end : goal.slice_bounds-equal-end
slice_bounds-equal-end c = omega (arith, component-fits c.requires)

pub slice_bounds-equal-end-2 : goal.slice_bounds-equal-end-2
slice_bounds-equal-end-2 c = component-fits c.requires

pub returns : goal.returns
returns c =
    repeats-trees c.requires (omega arith) (omega arith) c.equal.result c.equal.ensures
