use mathlib.Core.Path.{refl, sym, ◌∙◌}
use Rattle.arrangement.proofs.ComponentPlaces.{searching-start, searching-bound, searching-both, ordering-le, search-stop, search-step, search-end}
use native.Mathlib.Omega.{arith}
use Rattle.arrangement.proofs.component_place.Goals as goal

pub loop-index-init : goal.loop-index-init
loop-index-init c = λ x S e g q. searching-start x S

pub overflow_add-next : goal.overflow_add-next
overflow_add-next c =
    let a = c.requires in
    omega (arith, searching-bound a c.loop-index.invariant (omega arith), a.small)

pub slice_bounds-compare_generated-end : goal.slice_bounds-compare_generated-end
slice_bounds-compare_generated-end c = omega (arith, searching-bound c.requires c.loop-index.invariant (omega arith))

pub compare_generated-requires : goal.compare_generated-requires
compare_generated-requires c = searching-both c.requires c.loop-index.invariant (omega arith)

-- the component at the place is not before c: c goes there
pub returns-then-is_le : goal.returns-then-is_le
returns-then-is_le c =
    search-stop c.requires c.loop-index.invariant (omega arith)
    c.compare_generated.ensures (ordering-le c.compare_generated.result ∙ sym c.is_le.ensures ∙ c.if-is_le.true) _ refl refl

pub loop-index-preserved : goal.loop-index-preserved
loop-index-preserved c =
    search-step c.requires c.loop-index.invariant (omega arith)
    c.compare_generated.ensures (ordering-le c.compare_generated.result ∙ sym c.is_le.ensures ∙ c.if-is_le.false)

pub returns : goal.returns
returns c = search-end c.loop-index.invariant (omega arith) _ (omega arith) refl
