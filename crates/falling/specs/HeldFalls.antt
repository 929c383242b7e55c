-- What the functions of this crate ask of lent slices, beside what those of crate bumping ask.
use Rattle.std.specs.Prelude.{◌≡◌, true, List, [], ℕ, ◌≤◌, ◌<◌, length, take, get_or}
use Rattle.patterns.specs.Component.{valid_component}
use Rattle.patterns.specs.System.{System, weight}
use Rattle.memory.specs.Memory.{Holds}

-- a system of at most 200 points, of which component i is valid and begins at the place `at` of the trees
pub record HeldComponent (sizes trees : List ℕ) (i at : ℕ) : Type 0 where
  pub system : System
  pub holds : Holds system sizes trees
  pub within : i < length system
  pub valid : valid_component (get_or system i []) ≡ true
  pub place : at ≡ weight (take i system)
  pub small : length trees ≤ 200
