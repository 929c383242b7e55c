use mathlib.Core.List.{[]}
use Rattle.system_theory.specs.StepBack.{previous_sizes, lasts, fall, step_back_of}
use Rattle.system_theory.proofs.StepBack.{step_back_of-keeps}
use Rattle.system_theory.proofs.BackScan.{step_back_of-fall, step_back_of-sizes, step_back_of-none}
use Rattle.falling.proofs.Falling.{lasts-points}
use Rattle.stepping.proofs.Stepping.{Parts, Other, step_count, step-held, step_room, step_same, step-ends, step_other, other-count, other-sum, step-filled}
use Rattle.preceding.proofs.previous_system.Goals as goal

-- the step back
backward : Parts step_back_of (fall []) (previous_sizes 1) lasts
backward = record { within = step_back_of-fall; beyond = step_back_of-sizes; over = step_back_of-none; keeps = step_back_of-keeps; fits = lasts-points }

pub slice_bounds-fall-end-2 : goal.slice_bounds-fall-end-2
slice_bounds-fall-end-2 c = step_count c.requires

pub fall-requires : goal.fall-requires
fall-requires c = step-held c.requires

pub returns-then-fall : goal.returns-then-fall
returns-then-fall c = step_same c.requires backward c.fall.result _ c.fall.ensures c.if-fall.true

pub previous_sizes-requires : goal.previous_sizes-requires
previous_sizes-requires c = step_room c.requires

pub returns-in_err-k : goal.returns-in_err-k
returns-in_err-k c = rw c.from_residual.ensures (step-ends c.requires backward c.fall.result _ c.fall.ensures c.if-fall.false _ c.in_err-k.ensures _)

pub slice_bounds-last_right-end : goal.slice_bounds-last_right-end
slice_bounds-last_right-end c =
    let other : Other c.requires step_back_of lasts c.in_ok-k.k c.previous_sizes.new.sizes c.fall.new.trees = step_other c.requires backward c.fall.result _ c.fall.ensures c.if-fall.false c.previous_sizes.new.sizes c.in_ok-k.k c.in_ok-k.ensures c.fall.auto.trees in
    other.few

pub slice_bounds-last_right-end-2 : goal.slice_bounds-last_right-end-2
slice_bounds-last_right-end-2 c =
    let other : Other c.requires step_back_of lasts c.in_ok-k.k c.previous_sizes.new.sizes c.fall.new.trees = step_other c.requires backward c.fall.result _ c.fall.ensures c.if-fall.false c.previous_sizes.new.sizes c.in_ok-k.k c.in_ok-k.ensures c.fall.auto.trees in
    other-count c.requires backward other

pub last_right-requires : goal.last_right-requires
last_right-requires c =
    let other : Other c.requires step_back_of lasts c.in_ok-k.k c.previous_sizes.new.sizes c.fall.new.trees = step_other c.requires backward c.fall.result _ c.fall.ensures c.if-fall.false c.previous_sizes.new.sizes c.in_ok-k.k c.in_ok-k.ensures c.fall.auto.trees in
    other-sum c.requires backward other

pub returns : goal.returns
returns c =
    let other : Other c.requires step_back_of lasts c.in_ok-k.k c.previous_sizes.new.sizes c.fall.new.trees = step_other c.requires backward c.fall.result _ c.fall.ensures c.if-fall.false c.previous_sizes.new.sizes c.in_ok-k.k c.in_ok-k.ensures c.fall.auto.trees in
    step-filled c.requires backward other _ c.last_right.ensures
