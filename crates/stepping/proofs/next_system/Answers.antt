use mathlib.Core.Path.{ap, sym, ◌∙◌}
use mathlib.Core.List.{map}
use lib.ListN.{take, replicate}
use Rattle.system_theory.specs.Step.{next_sizes, cycle, bump, step}
use Rattle.system_theory.proofs.Step.{step_keeps}
use Rattle.system_theory.proofs.StepScan.{step-bump, step-sizes, step-none}
use Rattle.component_theory.proofs.Generation.{cycles-points}
use Rattle.size_lists.proofs.Filling.{flat-cycles}
use Rattle.stepping.proofs.Stepping.{Parts, Other, step_count, step-held, step_room, step_same, step-ends, step_other, other-sum, step-filled}
use Rattle.stepping.proofs.next_system.Goals as goal

-- the step forward
forward : Parts step bump next_sizes (map cycle)
forward = record { within = step-bump; beyond = step-sizes; over = step-none; keeps = step_keeps; fits = cycles-points }

pub slice_bounds-bump-end-2 : goal.slice_bounds-bump-end-2
slice_bounds-bump-end-2 c = step_count c.requires

pub bump-requires : goal.bump-requires
bump-requires c = step-held c.requires

pub returns-then-bump : goal.returns-then-bump
returns-then-bump c = step_same c.requires forward c.bump.result _ c.bump.ensures c.if-bump.true

pub next_sizes-requires : goal.next_sizes-requires
next_sizes-requires c = step_room c.requires

pub returns-in_err-k : goal.returns-in_err-k
returns-in_err-k c = rw c.from_residual.ensures (step-ends c.requires forward c.bump.result _ c.bump.ensures c.if-bump.false _ c.in_err-k.ensures _)

pub returns : goal.returns
returns c =
    let w = c.requires in
    let n = c.next_sizes.new.sizes in
    let other : Other w step (map cycle) c.in_ok-k.k n c.bump.new.trees = step_other w forward c.bump.result _ c.bump.ensures c.if-bump.false n c.in_ok-k.k c.in_ok-k.ensures c.bump.auto.trees in
    step-filled w forward other _
    (c.fill.ensures.after (λ y f. f) ∙ ap (λ j. replicate j 1) (sym (other-sum w forward other)) ∙ sym (flat-cycles (take c.in_ok-k.k n)))
