use Rattle.std.proofs.Common.{sym, ◌∙◌, arith}
use Rattle.std.proofs.lemmas.Bool.Decides.{nat_tests}
use Rattle.components.proofs.RotationAnswers.{told-some}
use Rattle.components.proofs.Validity.{valid-not-empty, valid-not-trees, valid-is-least}
use Rattle.components.proofs.valid_component.Goals as goal
use Rattle.components.proofs.valid_component.Goals.{then-not-is_empty, else-not-is_empty}

pub returns-then-valid_trees : goal.returns-then-valid_trees
returns-then-valid_trees c =
    λ d e.
    c.is_some.ensures
    ∙ told-some d (c.least_rotation.ensures d e)
    ∙ elim c.if-not-is_empty.branch [
      | then-not-is_empty w ↦ valid-is-least c.args.s.now (grind (arith, nat_tests)) d e (sym (w.valid_trees.ensures d e) ∙ cc)
      | else-not-is_empty w ↦ absurd cc
    ]

pub returns-else-valid_trees : goal.returns-else-valid_trees
returns-else-valid_trees c =
    λ d e.
    elim c.if-not-is_empty.branch [
      | then-not-is_empty w ↦ c.if-valid_trees.false ∙ valid-not-trees d (sym (w.valid_trees.ensures d e) ∙ cc)
      | else-not-is_empty w ↦ c.if-valid_trees.false ∙ valid-not-empty c.args.s.now (grind (arith, nat_tests)) d e
    ]
