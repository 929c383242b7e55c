use Rattle.generation.specs.Siblings.{is_forward}
use mathlib.Core.Path.{sym, ◌∙◌}
use native.Mathlib.Omega.{arith}
use Rattle.succession.proofs.Following.{sibling-node, parent-node, late-root, late-next, late-last}
use Rattle.succession.proofs.after_late.Goals as goal

pub opening-requires : goal.opening-requires
opening-requires c =
    let pre = c.requires in
    let p = pre.0 in
    let room = c.next_sibling.auto.out ∙ pre.3 in
    let b = c.next_sibling.ensures p.trees p.is in
    (sibling-node (is_forward c.args.direction) p.trees c.next_sibling.result _ _ b p.valid c.in-Next.is (omega arith), pre.1 ∙ sym room)

pub after_early-requires : goal.after_early-requires
after_early-requires c =
    let pre = c.requires in
    let p = pre.0 in
    let up_room = c.next_sibling.auto.up ∙ pre.2 in
    let side_room = c.next_sibling.auto.out ∙ pre.3 in
    let b = c.next_sibling.ensures p.trees p.is in (
      parent-node (is_forward c.args.direction) p.trees c.next_sibling.result _ _ b p.valid c.in-Last.is (omega arith),
      pre.1 ∙ sym up_room,
      side_room ∙ sym up_room,
    )

pub returns-in-Root : goal.returns-in-Root
returns-in-Root c =
    λ d e. late-root (is_forward c.args.direction) d c.next_sibling.result _ _ (c.next_sibling.ensures d e) c.in-Root.is _

pub returns-in-Next : goal.returns-in-Next
returns-in-Next c =
    λ d e.
    late-next (is_forward c.args.direction) d c.next_sibling.result _ _ (c.next_sibling.ensures d e) c.in-Next.is _ c.opening.ensures

pub returns-in-Last : goal.returns-in-Last
returns-in-Last c =
    λ d e.
    late-last (is_forward c.args.direction) d c.next_sibling.result _ _ (c.next_sibling.ensures d e) c.in-Last.is
    c.after_early.result _ c.after_early.ensures
