use Rattle.std.proofs.Common.{◌∙◌, rules}
use Rattle.trees.proofs.FirstPoints.{leading-first}
use Rattle.trees.proofs.leading.Goals as goal

pub returns : goal.returns
returns c = λ d e. c.unwrap_or.ensures ∙ rw e (leading-first d c.position.result (rw (← e) (search rules)))
