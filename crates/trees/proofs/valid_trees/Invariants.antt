use Rattle.std.proofs.Common.{◌≡◌, map}
use Rattle.lists.specs.Select.{each}
use Rattle.patterns.specs.Tree.{code, valid_tree}
use Rattle.patterns.specs.Component.{Component, flat}
use Rattle.trees.specs.Codes.{codes}
use Rattle.trees.proofs.valid_trees.Given as goal

abbrev pub invariant-loop-tree : goal.invariant-loop-tree
invariant-loop-tree l =
    (c : Component) → l.s ≡ flat c → (d : Component) × (codes l.tree-iterator.rest.now ≡ map code d) × (each valid_tree c ≡ each valid_tree d)
