-- The local step of generation order in both directions. Forward: the children as they are, and even depths before their descendants. Backward: the children from the
-- last to the first, and odd depths before their descendants, which is generation order read from its end.
use Rattle.std.specs.Prelude.{Bool, true, false, List, [], ◌∷◌, ◌++◌, reverse, ℕ, zero, suc, replicate}
use Rattle.std.proofs.Math.Option.{Option}
use Rattle.lists.specs.Select.{first}
use Rattle.patterns.specs.Tree.{point, merge}
use Rattle.patterns.specs.Component.{Component, compare_component}
use Rattle.patterns.specs.Generation.{parent, children}
use Rattle.component_theory.specs.LocalStep.{next_sibling_in, opening_in, after_early, after_late, step_in}

-- the children of c in the order of the direction
unfoldable pub kids : Bool → Component → List Component
unfolding children
kids true c = children c
kids false c = reverse (children c)

unfoldable pub first_child : Bool → Component → Option Component
unfolding kids
first_child forward c = first (kids forward c)

-- the child of c's parent that follows c
unfoldable pub next_sibling : Bool → Component → Option Component
unfolding parent kids compare_component
next_sibling forward c = next_sibling_in (kids forward) c

-- which of c and its descendants is listed first, where c comes after them
unfoldable pub opening : Bool → Component → Component
unfolding first_child
opening forward c = opening_in (kids forward) c

-- what follows c and its descendants, where c comes before them
unfoldable pub beyond_early : Bool → Component → Option Component
unfolding next_sibling parent
beyond_early forward c = after_early (kids forward) c

-- the same where c comes after them
unfoldable pub beyond_late : Bool → Component → Option Component
unfolding next_sibling opening beyond_early parent
beyond_late forward c = after_late (kids forward) c

-- what follows c
unfoldable pub neighbour : Bool → Component → Option Component
unfolding first_child opening beyond_early beyond_late
neighbour forward c = step_in (kids forward) forward c

-- what follows c in generation order
abbrev pub successor : Component → Option Component
successor c = neighbour true c

-- what stands before c in generation order
abbrev pub predecessor : Component → Option Component
predecessor c = neighbour false c

-- the last component of s points in generation order: the last two of s points on a cycle are merged
unfoldable pub last_component : ℕ → Component
last_component zero = []
last_component (suc zero) = point ∷ []
last_component (suc (suc s)) = replicate s point ++ (merge point point ∷ [])
