-- What the writer asks: a component or a system in memory, and from a place on exactly the room that its bytes need.
use Rattle.std.specs.Prelude.{◌≡◌, List, ℕ, ◌+◌, ◌≤◌, length}
use Rattle.lists.specs.Select.{gather}
use Rattle.patterns.specs.Component.{Component, flat}
use Rattle.patterns.specs.Written.{component_numbers, bytes, written}
use Rattle.memory.specs.Memory.{HeldSystem}

-- s holds some component of at most 200 points
pub record HeldComponent (s : List ℕ) : Type 0 where
  pub trees : Component
  pub is : s ≡ flat trees
  pub small : length s ≤ 200

pub record ComponentRoom (s out : List ℕ) (at : ℕ) : Type 0 where
  pub held : HeldComponent s
  pub room : at + length (bytes (component_numbers held.trees)) ≤ length out

pub record ComponentsRoom (sizes trees out : List ℕ) (at : ℕ) : Type 0 where
  pub held : HeldSystem sizes trees
  pub room : at + length (bytes (gather component_numbers held.system)) ≤ length out

pub record SystemRoom (sizes trees out : List ℕ) (at : ℕ) : Type 0 where
  pub held : HeldSystem sizes trees
  pub room : at + length (written held.system) ≤ length out
