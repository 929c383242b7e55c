use Rattle.generation.specs.Siblings.{is_forward}
use mathlib.Core.Path.{◌≡◌, sym, ◌∙◌}
use mathlib.Core.Bool.{true}
use native.Mathlib.Omega.{arith}
use Rattle.patterns.specs.Component.{Component, flat}
use Rattle.component_theory.specs.LocalStep.{early}
use Rattle.succession.proofs.Following.{child-node, late-step, early-step, child-step}
use Rattle.succession.proofs.step.Goals as goal

pub returns-then-not-is_early : goal.returns-then-not-is_early
returns-then-not-is_early c =
    λ d e.
    late-step (is_forward c.args.direction) d (sym (c.is_early.ensures d e) ∙ c.if-not-is_early.true) c.after_late.result _
    (c.after_late.ensures d e)

pub returns-then-first_child : goal.returns-then-first_child
returns-then-first_child c =
    let comes-early : (d : Component) → c.args.s.now ≡ flat d → early (is_forward c.args.direction) d ≡ true = λ d e. sym (c.is_early.ensures d e) ∙ c.if-not-is_early.false in
    λ d e.
    child-step (is_forward c.args.direction) d (comes-early d e) c.first_child.result _ (c.first_child.ensures d e) c.if-first_child.true _
    c.opening.ensures

pub returns : goal.returns
returns c =
    let comes-early : (d : Component) → c.args.s.now ≡ flat d → early (is_forward c.args.direction) d ≡ true = λ d e. sym (c.is_early.ensures d e) ∙ c.if-not-is_early.false in
    λ d e.
    early-step (is_forward c.args.direction) d (comes-early d e) c.first_child.result _ (c.first_child.ensures d e) c.if-first_child.false
    c.after_early.result _ (c.after_early.ensures d e)

pub opening-requires : goal.opening-requires
opening-requires c =
    let pre = c.requires in
    let room = c.first_child.auto.out ∙ pre.3 in
    let g = c.first_child.ensures pre.0.trees pre.0.is in
    (child-node (is_forward c.args.direction) pre.0.trees c.first_child.result _ g c.if-first_child.true (omega arith), pre.1 ∙ sym room)
