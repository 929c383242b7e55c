-- What a code accepted leaves in memory.
use Rattle.std.specs.Prelude.{◌≡◌, true, List, ℕ, ◌≤◌, length}
use Rattle.patterns.specs.Component.{Component, flat, valid_component}
use Rattle.patterns.specs.System.{System, weight, canonical}
use Rattle.memory.specs.Memory.{Holds}

-- s holds some valid component of at most 200 points
pub record HeldValid (s : List ℕ) : Type 0 where
  pub trees : Component
  pub is : s ≡ flat trees
  pub valid : valid_component trees ≡ true
  pub small : length s ≤ 200

-- the two slices hold some canonical system of at most 200 points
pub record HeldCanonical (sizes trees : List ℕ) : Type 0 where
  pub system : System
  pub holds : Holds system sizes trees
  pub canonical_is : canonical system ≡ true
  pub small : weight system ≤ 200
