-- The place at which a component is cut so that, turned to begin there, it is least.
use Rattle.std.specs.Prelude.{◌≡◌, true, ◌++◌, ℕ}
use Rattle.lists.specs.Order.{at_most}
use Rattle.patterns.specs.Component.{Component, points, compare_component}

-- turned to begin at r, c is least
pub record LeastStart (c : Component) (r : ℕ) : Type 0 where
  pub front : Component
  pub back : Component
  pub cut : c ≡ front ++ back
  pub place : r ≡ points front
  pub least : (u v : Component) → c ≡ u ++ v → at_most compare_component (back ++ front) (v ++ u) ≡ true
