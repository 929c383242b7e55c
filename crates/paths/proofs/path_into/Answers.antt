use mathlib.Core.Path.{◌≡◌, ap}
use mathlib.Core.List.{List}
use Prim.Native.Nat.{ℕ, ◌+◌, ◌-◌, ◌<◌}
use native.Mathlib.Omega.{arith}
use lib.ListN.{length, take, drop}
use Rattle.patterns.specs.Component.{Component, flat}
use Rattle.patterns.proofs.Trees.{length-flat}
use Rattle.trees.specs.Beginnings.{leading_points}
use Rattle.component_theory.proofs.Generation.{length-points}
use Rattle.components.proofs.Climbing.{climbed-root}
use Rattle.paths.proofs.Tracing.{Tracing, tracing-start, tracing-within, tracing-ahead, tracing-lead, tracing-root, tracing-end, step-key, tracing-step}
use Rattle.paths.proofs.path_into.Goals as goal

-- the leading points are counted on
led : {s₀ keys₀ s keys : List ℕ} {trees lead at k : ℕ} (w : Tracing s₀ keys₀ s keys trees lead at)
    → ((c : Component) → take (length s - lead) (drop lead s) ≡ flat c → k ≡ leading_points c) → lead + k ≡ leading_points w.reached
led {lead = lead} w f = tracing-lead w (f (drop lead w.reached) (tracing-ahead w))

back-step : (n : ℕ) → 0 < n → n - 1 + 1 ≡ n
back-step n h = omega arith

pub loop-at-init : goal.loop-at-init
loop-at-init c =
    let h = c.requires in
    tracing-start h (c.count-trees.ensures h.trees h.is)

pub slice_bounds-leading-count : goal.slice_bounds-leading-count
slice_bounds-leading-count c =
    let w = c.loop-at.invariant in
    omega (arith, tracing-within w, w.leads)

pub slice_bounds-leading-start : goal.slice_bounds-leading-start
slice_bounds-leading-start c =
    let w = c.loop-at.invariant in
    omega (arith, tracing-within w, w.leads)

pub leading-lead-requires : goal.leading-lead-requires
leading-lead-requires c = let l = c.loop-at in record { trees = drop l.lead l.invariant.reached; is = tracing-ahead l.invariant }

pub overflow_add-lead : goal.overflow_add-lead
overflow_add-lead c = let w = c.loop-at.invariant in omega (arith, led w c.leading-lead.ensures, tracing-within w)

-- no tree of more points is left
pub returns-then-s-lead : goal.returns-then-s-lead
returns-then-s-lead c =
    let l = c.loop-at in
    rw (back-step c.loop-at.at (omega arith)) (tracing-root l.invariant (climbed-root l.s _ l.invariant.reached l.invariant.is (led l.invariant c.leading-lead.ensures) (omega arith)))

pub unmerge_at-key-requires : goal.unmerge_at-key-requires
unmerge_at-key-requires c =
    let w = c.loop-at.invariant in
    record { trees = w.reached; is = w.is; leads = led w c.leading-lead.ensures; more = omega arith; counted = w.counted }

pub overflow_cast-keys : goal.overflow_cast-keys
overflow_cast-keys c = let w = c.loop-at.invariant in omega (arith, step-key w (c.unmerge_at-key.ensures w.reached w.is))

pub overflow_add-trees : goal.overflow_add-trees
overflow_add-trees c =
    let w = c.loop-at.invariant in
    omega (arith, w.counted, length-points w.reached, ap length w.is, length-flat w.reached, w.small)

pub loop-at-preserved : goal.loop-at-preserved
loop-at-preserved c =
    let w = c.loop-at.invariant in
    tracing-step w (omega arith) (led w c.leading-lead.ensures) (c.unmerge_at-key.ensures w.reached w.is)

pub returns : goal.returns
returns c =
    let w = c.loop-at.invariant in
    let z : c.loop-at.at ≡ 0 = omega arith in
    rw (← z) (tracing-end w z)
