-- The local step of generation order is right in both directions: what follows a valid component in the generation list is its successor, and what stands before it is
-- its predecessor.
use mathlib.Core.Path.{◌≡◌, refl, sym}
use mathlib.Core.Bool.{Bool, true, false}
use mathlib.Core.List.{List, reverse}
use mathlib.Core.Option.{some}
use Prim.Native.Nat.{ℕ}
use Rattle.lists.specs.Select.{next, previous}
use Rattle.lists.proofs.Follow.{Within}
use Rattle.patterns.specs.Component.{Component, points, compare_component, valid_component}
use Rattle.patterns.specs.Generation.{children, walk, cycle, generation}
use Rattle.component_theory.specs.Successor.{kids, neighbour, successor, predecessor}
use Rattle.component_theory.proofs.Traversal.{reverse-walk}
use Rattle.component_theory.proofs.Generation.{Arranged, children-arranged, reverse-arranged}
use Rattle.component_theory.proofs.LocalStep.{step_in-within, step_in-is, step_in-valid}

pub kids-arranged : (forward : Bool) → Arranged (kids forward)
unfolding kids
kids-arranged true = children-arranged
kids-arranged false = reverse-arranged children-arranged

-- the generation list, read in a direction
abbrev generation_in : Bool → ℕ → List Component
generation_in true n = generation n
generation_in false n = reverse (generation n)

-- it is the walk in that direction
pub walk-in : (forward : Bool) (n : ℕ) → walk (kids forward) n forward (cycle n) ≡ generation_in forward n
unfolding kids generation
walk-in true n = refl
walk-in false n = sym (reverse-walk children n true (cycle n))

-- what follows a valid component in a direction is its neighbour
neighbour-within : (forward : Bool) (c : Component) → valid_component c ≡ true → Within c (generation_in forward (points c)) (neighbour forward c)
unfolding neighbour
neighbour-within forward c v = rw (← walk-in forward (points c)) (step_in-within (kids-arranged forward) forward c v)

-- a neighbour is valid and has as many points
pub neighbour-valid : (forward : Bool) (c d : Component) → valid_component c ≡ true → neighbour forward c ≡ some d → (valid_component d ≡ true) × (points d ≡ points c)
unfolding neighbour
neighbour-valid forward = step_in-valid (kids-arranged forward) forward

-- so it is what `next` finds there
neighbour-is : (forward : Bool) (c : Component) → valid_component c ≡ true → next compare_component c (generation_in forward (points c)) ≡ neighbour forward c
unfolding neighbour
neighbour-is forward c v = rw (← walk-in forward (points c)) (step_in-is (kids-arranged forward) forward c v)

pub successor-within : (c : Component) → valid_component c ≡ true → Within c (generation (points c)) (successor c)
successor-within = neighbour-within true

pub predecessor-within : (c : Component) → valid_component c ≡ true → Within c (reverse (generation (points c))) (predecessor c)
predecessor-within = neighbour-within false

-- what follows a valid component in the generation list is its successor, and what stands before it its predecessor
pub successor-is : (c : Component) → valid_component c ≡ true → next compare_component c (generation (points c)) ≡ successor c
successor-is = neighbour-is true

pub predecessor-is : (c : Component) → valid_component c ≡ true → previous compare_component c (generation (points c)) ≡ predecessor c
predecessor-is = neighbour-is false
