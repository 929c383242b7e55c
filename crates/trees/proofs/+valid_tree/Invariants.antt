use mathlib.Core.Path.{◌≡◌}
use mathlib.Core.Bool.{true}
use Prim.Native.Nat.{◌-◌}
use lib.ListN.{length}
use Rattle.patterns.specs.Tree.{Tree, valid_tree}
use Rattle.trees.proofs.Walks.{Inside}
use Rattle.trees.proofs.+valid_tree.Given as goal

abbrev Valid : Tree → Type 0
Valid t = valid_tree t ≡ true

abbrev pub decreases-valid_tree : goal.decreases-valid_tree
decreases-valid_tree l = length l.s.now

abbrev pub invariant-loop-at : goal.invariant-loop-at
invariant-loop-at l = Inside l.s l.last l.at Valid

abbrev pub decreases-loop-at : goal.decreases-loop-at
decreases-loop-at l = length l.s - l.at
