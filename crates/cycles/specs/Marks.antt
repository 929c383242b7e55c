-- Points on cycles: marks that tell them from the others.
use Rattle.std.specs.Prelude.{◌≡◌, cond, List, ℕ, ◌<◌, length, get_or}
use Rattle.patterns.specs.Table.{image, on_cycle}

-- the points on cycles are marked by 1, the others by 0
pub record Marked (f marks : List ℕ) : Type 0 where
  pub same : length marks ≡ length f
  pub marks_are : (x : ℕ) → x < length f → get_or marks x 0 ≡ cond (on_cycle (length f) (image f) x) 1 0
