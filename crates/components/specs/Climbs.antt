-- A step from a component to its parent.
use Rattle.std.specs.Prelude.{◌≡◌, true, false, List, ℕ, ◌<◌, length, Option, Some, None}
use Rattle.patterns.specs.Component.{Component, flat}
use Rattle.patterns.specs.Generation.{has_parent, parent}
use Rattle.trees.specs.Beginnings.{leading_points}
use Rattle.component_theory.specs.Path.{key}

-- a component, and a buffer of as many bytes
pub record HeldBeside (s out : List ℕ) : Type 0 where
  pub trees : Component
  pub is : s ≡ flat trees
  pub room : length out ≡ length s

-- a component of so many trees that begins with h points and has a tree of more points
pub record HeldMerge (s : List ℕ) (h count : ℕ) : Type 0 where
  pub trees : Component
  pub is : s ≡ flat trees
  pub leads : h ≡ leading_points trees
  pub more : h < length s
  pub counted : count ≡ length trees

-- a step up from c: c has no parent, or its parent is in the buffer, and its key is its place among its parent's candidates
abbrev pub Climbed : Component → Option ℕ → List ℕ → Type 0
Climbed c None out = has_parent c ≡ false
Climbed c (Some k) out = (has_parent c ≡ true) × (out ≡ flat (parent c)) × (k ≡ key c)
