use Rattle.generation.specs.Siblings.{is_forward}
use mathlib.Core.Path.{sym, ◌∙◌}
use Rattle.generation.proofs.Relatives.{climbed-root, Raised, raised, up-node, up_key, beside-next, beside-last}
use Rattle.generation.proofs.next_sibling.Goals as goal

pub returns-in_default : goal.returns-in_default
returns-in_default c = λ d e. climbed-root d c.parent.result _ (c.parent.ensures d e) c.in_default.is

pub child_beside-requires : goal.child_beside-requires
child_beside-requires c =
    let climb : Raised c.args.s.now c.parent.new.out c.in-Some.key =
    raised c.requires.0 c.parent.result c.in-Some.key c.in-Some.is c.parent.new.out (c.parent.auto.out ∙ c.requires.2) c.parent.ensures in
    (up-node climb, c.requires.1 ∙ sym climb.same, up_key climb)

pub returns-then-child_beside : goal.returns-then-child_beside
returns-then-child_beside c =
    let climb : Raised c.args.s.now c.parent.new.out c.in-Some.key =
    raised c.requires.0 c.parent.result c.in-Some.key c.in-Some.is c.parent.new.out (c.parent.auto.out ∙ c.requires.2) c.parent.ensures in
    λ d e. beside-next climb (is_forward c.args.direction) c.child_beside.result _ c.child_beside.ensures d e c.if-child_beside.true

pub returns : goal.returns
returns c =
    let climb : Raised c.args.s.now c.parent.new.out c.in-Some.key =
    raised c.requires.0 c.parent.result c.in-Some.key c.in-Some.is c.parent.new.out (c.parent.auto.out ∙ c.requires.2) c.parent.ensures in
    λ d e. beside-last climb (is_forward c.args.direction) c.child_beside.result _ c.child_beside.ensures d e c.if-child_beside.false
