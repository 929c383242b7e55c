use Rattle.generation.specs.Siblings.{is_forward}
use mathlib.Core.Path.{ap, sym, ◌∙◌}
use mathlib.Core.Bool.{not}
use Rattle.component_theory.specs.LocalStep.{early}
use Rattle.succession.proofs.Following.{count-within, depth-even}
use Rattle.succession.proofs.is_early.Goals as goal

pub overflow_sub-depth : goal.overflow_sub-depth
overflow_sub-depth c = let p = c.requires in count-within c.count.result c.count.ensures p.trees p.is

pub returns-in-Forward : goal.returns-in-Forward
returns-in-Forward c =
    let n = c.count in
    λ d e. sym (ap (λ b. early b d) (ap is_forward c.in-Forward.is) ∙ depth-even n.result n.ensures d e)

pub returns-in-Backward : goal.returns-in-Backward
returns-in-Backward c =
    let n = c.count in
    λ d e. sym (ap (λ b. early b d) (ap is_forward c.in-Backward.is) ∙ ap not (depth-even n.result n.ensures d e))
