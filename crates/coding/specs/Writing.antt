-- What the functions from tables to systems find and leave in lent slices: trees and, at the same places, labels.
use Rattle.std.specs.Prelude.{◌≡◌, true, List, ◌++◌, map, ℕ, ◌+◌, ◌≤◌, ◌<◌, length}
use Rattle.patterns.specs.Tree.{size}
use Rattle.patterns.specs.Component.{points, valid_component}
use Rattle.patterns.specs.Table.{image, is_table, on_cycle}
use Rattle.links.specs.Links.{Links}
use Rattle.map_theory.specs.Plants.{Plant, shape, plant_at, plants_along}
use Rattle.arrangement.specs.Arrangement.{Planted}

-- a table of at most 200 points, and room for a tree and a label for each point
pub record Prepared (f trees labels : List ℕ) : Type 0 where
  pub table : is_table f ≡ true
  pub small : length f ≤ 200
  pub trees_room : length trees ≡ length f
  pub labels_room : length labels ≡ length f

-- the tree at x is asked for from place `at` on, and has at most `left` points, for which there is room
pub record TreeAsked (f last before : List ℕ) (x left : ℕ) (trees labels : List ℕ) (at : ℕ) : Type 0 where
  pub prepared : Prepared f trees labels
  pub links : Links f (length f) last before
  pub here : x < length f
  pub bounded : size (shape (plant_at f x)) ≤ left
  pub room : at + left ≤ length f

-- the same, of some table that has these links
pub record TreeOfLinks (last before : List ℕ) (x left : ℕ) (trees labels : List ℕ) (at : ℕ) : Type 0 where
  pub of : List ℕ
  pub asked : TreeAsked of last before x left trees labels at

-- the trees along the cycle from x are asked for from place `at` on, and there is room for them
pub record CycleAsked (f last before : List ℕ) (x : ℕ) (trees labels : List ℕ) (at : ℕ) : Type 0 where
  pub prepared : Prepared f trees labels
  pub links : Links f (length f) last before
  pub here : x < length f
  pub on : on_cycle (length f) (image f) x ≡ true
  pub room : at + points (map shape (plants_along f x)) ≤ length f

-- The component whose cycle goes through x was written from `start` to `end`: its plants along the cycle from some point on, turned so that the code
-- is valid. Where several turns are least, which one it is is left free.
pub record ComponentWritten (f : List ℕ) (x start : ℕ) (d e : List ℕ) (end : ℕ) (trees labels : List ℕ) : Type 0 where
  pub plants : List Plant
  pub front : List Plant
  pub back : List Plant
  pub cut : plants_along f x ≡ front ++ back
  pub joined : plants ≡ back ++ front
  pub valid : valid_component (map shape plants) ≡ true
  pub planted : Planted plants start d e end trees labels
