use mathlib.Core.Path.{◌∙◌}
use Rattle.components.proofs.RotationAnswers.{told-some}
use Rattle.children.proofs.is_least.Goals as goal

pub returns : goal.returns
returns c = λ d e. c.is_some.ensures ∙ told-some d (c.least_rotation.ensures d e)
