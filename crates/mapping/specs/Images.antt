-- What the functions from systems to maps find and leave in lent slices.
use Rattle.std.specs.Prelude.{◌≡◌, List, ℕ, ◌+◌, ◌≤◌, length}
use Rattle.patterns.specs.Tree.{Tree, code}
use Rattle.patterns.specs.Component.{Component, flat, points}
use Rattle.memory.specs.Memory.{HeldSystem, Stands}

-- room for an image for each point, and places that fit a byte
pub record ImageRoom (trees out : List ℕ) : Type 0 where
  pub same : length out ≡ length trees
  pub small : length trees ≤ 200

-- a tree stands from p on
pub record TreeStands (trees : List ℕ) (p : ℕ) (out : List ℕ) : Type 0 where
  pub tree : Tree
  pub stands : Stands (code tree) p trees
  pub room : ImageRoom trees out

-- a component stands from start on, and ends at end
pub record ComponentStands (trees : List ℕ) (start end : ℕ) (out : List ℕ) : Type 0 where
  pub component : Component
  pub stands : Stands (flat component) start trees
  pub ends : end ≡ start + points component
  pub room : ImageRoom trees out

-- a system in memory, and room for an image for each of its points
pub record MapAsked (sizes trees out : List ℕ) : Type 0 where
  pub held : HeldSystem sizes trees
  pub room : length out ≡ length trees
