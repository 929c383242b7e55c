use mathlib.Core.List.{List, [], ◌∷◌}
use Prim.Native.Nat.{◌-◌, ℕ}
use lib.ListN.{length}
use Rattle.map_theory.specs.Plants.{plant_at}
use Rattle.arrangement.specs.Arrangement.{Planted}
use Rattle.coding.specs.Writing.{CycleAsked}
use Rattle.coding.proofs.Circling.{Circling}
use Rattle.coding.proofs.trees_along.Given as goal

abbrev pub invariant-loop-y : goal.invariant-loop-y
invariant-loop-y l =
    (d e : List ℕ) → CycleAsked l.f l.branches.last.now l.branches.before.now l.x d e l.at → Planted (plant_at l.f l.x ∷ []) l.at d e l.initial.end l.initial.trees l.initial.labels
    → Circling l.f l.x l.at d e l.y l.end l.trees l.labels

abbrev pub decreases-loop-y : goal.decreases-loop-y
decreases-loop-y l = length l.f - l.end
