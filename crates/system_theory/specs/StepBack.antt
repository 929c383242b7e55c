-- The step from a code to the one that stands before it in the list of all codes: the mirror of the step.
use Rattle.std.specs.Prelude.{cond, List, [], ◌∷◌, map, ℕ, suc, ◌+◌, ◌-◌, ◌/◌, leb, ltb}
use Rattle.std.proofs.Math.Option
use Rattle.std.proofs.Math.Option.{Option, none, some}
use Rattle.lists.specs.Order.{same}
use Rattle.lists.specs.Select.{total, otherwise}
use Rattle.patterns.specs.Component.{Component, points, compare_component}
use Rattle.patterns.specs.System.{System}
use Rattle.component_theory.specs.Successor.{neighbour, predecessor, last_component}

-- what s and the numbers l to its right give way to, where s can fall and a stands to its left: s falls by as little as it can, and one number takes all the rest
unfoldable pub lower_sizes : ℕ → ℕ → List ℕ → Option (List ℕ)
lower_sizes a s [] = cond (leb (a + a) s) (some (s / 2 ∷ (s - s / 2) ∷ [])) none
lower_sizes a s (t ∷ l) = cond (ltb a s) (some ((s - 1) ∷ suc (total (λ b. b) (t ∷ l)) ∷ [])) none

-- the size list before, where a stands to the left of all: the rightmost number that can fall falls
unfoldable pub previous_sizes : ℕ → List ℕ → Option (List ℕ)
unfolding lower_sizes
previous_sizes a [] = none
previous_sizes a (s ∷ l) = otherwise (Option.map (s ∷◌) (previous_sizes s l)) (lower_sizes a s l)

-- what may stand in the place of c, to the right of p, and stands just before c: its predecessor, and where c is p again nothing
abbrev pub lower : Component → Component → Option Component
lower p c = cond (same compare_component p c) none (predecessor c)

-- the last way to fill these sizes
abbrev pub lasts : List ℕ → System
lasts sizes = map last_component sizes

-- the system before with the same sizes, where p stands to the left of all: the rightmost component that can fall falls, and the last way to fill the rest follows
unfoldable pub fall : Component → System → Option System
unfolding compare_component neighbour last_component
fall p [] = none
fall p (c ∷ S) = otherwise (Option.map (c ∷◌) (fall c S)) (Option.map (λ d. d ∷ lasts (map points S)) (lower p c))

-- the system before: with the same sizes, or where there is none the last way to fill the size list before
unfoldable pub step_back_of : System → Option System
unfolding fall previous_sizes last_component
step_back_of S = otherwise (fall [] S) (Option.map lasts (previous_sizes 1 (map points S)))
