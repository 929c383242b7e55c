use Rattle.generation.specs.Siblings.{is_forward}
use Rattle.succession.proofs.Following.{early-root, early-next, early-last}
use Rattle.succession.proofs.after_early.Goals as goal

pub returns-in-Root : goal.returns-in-Root
returns-in-Root c =
    λ d e. early-root (is_forward c.args.direction) d c.next_sibling.result _ _ (c.next_sibling.ensures d e) c.in-Root.is _

pub returns-in-Next : goal.returns-in-Next
returns-in-Next c =
    λ d e. early-next (is_forward c.args.direction) d c.next_sibling.result _ _ (c.next_sibling.ensures d e) c.in-Next.is

pub returns-in-Last : goal.returns-in-Last
returns-in-Last c =
    λ d e.
    early-last (is_forward c.args.direction) d c.next_sibling.result _ _ (c.next_sibling.ensures d e) c.in-Last.is _
    c.copy_from_slice.ensures.after
