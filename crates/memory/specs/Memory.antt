-- Trees, components and systems in memory. A tree is its code, a component the codes of its trees one after another, so a byte for each point. A
-- system is two slices: `sizes`, the points of each component, and `trees`, the components one after another.
use Rattle.std.specs.Prelude.{◌≡◌, true, List, ◌++◌, map, ℕ, ◌≤◌, length}
use Rattle.lists.specs.Select.{each, gather}
use Rattle.patterns.specs.Tree.{Tree, code}
use Rattle.patterns.specs.Component.{Component, points, flat, nonempty}
use Rattle.patterns.specs.System.{System, weight}

-- s holds some tree
pub record HeldTree (s : List ℕ) : Type 0 where
  pub tree : Tree
  pub is : s ≡ code tree

-- s holds some component
pub record Held (s : List ℕ) : Type 0 where
  pub trees : Component
  pub is : s ≡ flat trees

-- the two slices hold S
pub record Holds (S : System) (sizes trees : List ℕ) : Type 0 where
  pub points_are : sizes ≡ map points S
  pub flat_is : trees ≡ gather flat S

-- the two slices hold some system of at most 200 points, and each of its components has a tree
pub record HeldSystem (sizes trees : List ℕ) : Type 0 where
  pub system : System
  pub holds : Holds system sizes trees
  pub each_nonempty : each nonempty system ≡ true
  pub small : weight system ≤ 200

-- the bytes l stand in d from place p on
pub record Stands (l : List ℕ) (p : ℕ) (d : List ℕ) : Type 0 where
  pub front : List ℕ
  pub rest : List ℕ
  pub is : d ≡ front ++ (l ++ rest)
  pub place : length front ≡ p
