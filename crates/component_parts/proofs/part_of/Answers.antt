use native.Mathlib.Nat.{le_of_lt}
use native.Mathlib.Omega.{arith}
use Rattle.component_parts.proofs.Showing.{part-within}
use Rattle.component_parts.proofs.part_of.Goals as goal

pub slice_bounds-result-count : goal.slice_bounds-result-count
slice_bounds-result-count c =
    let a = c.args in
    le_of_lt (part-within a.code a.position c.stretch_of.ensures c.in-Ok.part c.in-Ok.is (λ j h. omega (arith, c.type_inv.code j))).0

pub slice_bounds-result-start : goal.slice_bounds-result-start
slice_bounds-result-start c =
    let a = c.args in
    le_of_lt (part-within a.code a.position c.stretch_of.ensures c.in-Ok.part c.in-Ok.is (λ j h. omega (arith, c.type_inv.code j))).0

pub slice_bounds-result-end : goal.slice_bounds-result-end
slice_bounds-result-end c =
    let a = c.args in
    (part-within a.code a.position c.stretch_of.ensures c.in-Ok.part c.in-Ok.is (λ j h. omega (arith, c.type_inv.code j))).1
