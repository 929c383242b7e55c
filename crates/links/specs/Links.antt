-- Links that lead through the points that hang at a point, from the greatest to the least: from the point to the greatest, and from each to the next.
use Rattle.std.specs.Prelude.{◌≡◌, true, cond, List, ℕ, zero, suc, ◌<◌, length, get_or}
use Rattle.patterns.specs.Table.{image, hangs_at}
use Rattle.cycles.specs.Marks.{Marked}

-- one more than the greatest point below y that hangs at x, and 0 where there is none
unfoldable pub last_below : List ℕ → ℕ → ℕ → ℕ
unfolding hangs_at
last_below f x zero = 0
last_below f x (suc y) =
    let earlier = last_below f x y in
    cond (hangs_at (length f) (image f) x y) (suc y) earlier

-- a table with its marks, and room for two links for each point
pub record LinksAsked (f marks last before : List ℕ) : Type 0 where
  pub marked : Marked f marks
  pub last_room : length last ≡ length f
  pub before_room : length before ≡ length f

-- the links among the points below k: last leads from x to the greatest that hangs at x, before from y to the next lesser one that hangs where y does
pub record Links (f : List ℕ) (k : ℕ) (last before : List ℕ) : Type 0 where
  pub last_room : length last ≡ length f
  pub before_room : length before ≡ length f
  pub last_are : (x : ℕ) → x < length f → get_or last x 0 ≡ last_below f x k
  pub before_are : (x y : ℕ) → y < k → hangs_at (length f) (image f) x y ≡ true → get_or before y 0 ≡ last_below f x y
