use mathlib.Core.List.{List}
use Prim.Native.Nat.{ℕ}
use Rattle.coding.specs.Writing.{TreeAsked}
use Rattle.coding.proofs.Growing.{Growing}
use Rattle.coding.proofs.+tree_at.Given as goal

abbrev pub decreases-tree_at : goal.decreases-tree_at
decreases-tree_at l = l.left

abbrev pub invariant-loop-y : goal.invariant-loop-y
invariant-loop-y l =
    (f : List ℕ) → TreeAsked f l.branches.last.now l.branches.before.now l.x l.left l.initial.trees l.initial.labels l.at
    → Growing f l.x l.at l.initial.trees l.initial.labels l.y l.end l.trees l.labels

abbrev pub decreases-loop-y : goal.decreases-loop-y
decreases-loop-y l = l.y
