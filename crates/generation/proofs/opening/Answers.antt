use Rattle.std.proofs.Common.{ap}
use Rattle.generation.specs.Siblings.{is_forward}
use mathlib.Core.Path.{ap, sym, ◌∙◌}
use Rattle.patterns.specs.Component.{flat}
use Rattle.generation.proofs.Relatives.{opening-child, opening-self}
use Rattle.generation.proofs.opening.Goals as goal

pub returns-then-not-first_child : goal.returns-then-not-first_child
returns-then-not-first_child c =
    (λ d e.
    c.copy_from_slice.ensures.after ∙ e
    ∙ sym (ap flat (opening-self (is_forward c.args.direction) d c.first_child.result _ (c.first_child.ensures d e) c.if-not-first_child.true)))

pub returns-else-not-first_child : goal.returns-else-not-first_child
returns-else-not-first_child c =
    (λ d e. opening-child (is_forward c.args.direction) d c.first_child.result _ (c.first_child.ensures d e) c.if-not-first_child.false)
