use Rattle.std.proofs.Common.{◌≡◌, refl, true, false, cond, ap, sym, ◌∙◌}
use Rattle.lists.specs.Select.{each}
use Rattle.trees.specs.Codes.{codes}
use Rattle.patterns.specs.Tree.{valid_tree}
use Rattle.trees.proofs.TreeCodes.{codes-flat, next-code, no-code, each-next}
use Rattle.trees.proofs.valid_trees.Goals as goal

pub loop-tree-init : goal.loop-tree-init
loop-tree-init c = λ d e. (d, ap (λ t. codes t.rest.now) c.into_iter-tree-iterator.ensures.into_iter_gives ∙ ap codes c.new-tree-items.ensures ∙ codes-flat c.args.s.now d e, refl)

pub valid_tree-requires : goal.valid_tree-requires
valid_tree-requires c =
    let w = c.loop-tree.invariant c.requires.trees c.requires.is in
    let n = next-code c.in-Some.ensures.steps w.0 w.1 in
    record { tree = n.tree; is = n.stretch }

pub returns-then-not-valid_tree : goal.returns-then-not-valid_tree
returns-then-not-valid_tree c =
    λ d e.
    let w = c.loop-tree.invariant d e in
    let n = next-code c.in-Some.ensures.steps w.0 w.1 in
    let v : valid_tree n.tree ≡ false = sym (c.valid_tree.ensures n.tree n.stretch) ∙ c.if-not-valid_tree.true in
    sym (w.2 ∙ each-next valid_tree n ∙ ap (λ b. cond b (each valid_tree n.later) false) v)

pub loop-tree-preserved : goal.loop-tree-preserved
loop-tree-preserved c =
    λ d e.
    let w = c.loop-tree.invariant d e in
    let n = next-code c.in-Some.ensures.steps w.0 w.1 in
    let v : valid_tree n.tree ≡ true = sym (c.valid_tree.ensures n.tree n.stretch) ∙ c.if-not-valid_tree.false in
    (n.later, n.left, w.2 ∙ each-next valid_tree n ∙ ap (λ b. cond b (each valid_tree n.later) false) v)

pub returns : goal.returns
returns c =
    λ d e.
    let w = c.loop-tree.invariant d e in
    let z = no-code c.in-None.ensures.steps.0 w.0 w.1 in
    sym (w.2 ∙ ap (each valid_tree) z)
