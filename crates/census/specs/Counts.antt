-- Counting cycles by their length, each walked once, its marks cleared on the way: what is asked for, and what is found.
use Rattle.std.specs.Prelude.{◌≡◌, true, List, ℕ, ◌≤◌, ◌<◌, ◌+◌, length, get_or, replicate}
use Rattle.patterns.specs.Table.{image, iterate, on_cycle, cycle_from}
use Rattle.patterns.specs.Census.{cycles_of}
use Rattle.cycles.specs.Marks.{Marked}

-- x is a point of a table and on a cycle, and there is a mark for each point
pub record ClearAsked (f marks : List ℕ) (x : ℕ) : Type 0 where
  pub room : length marks ≡ length f
  pub here : x < length f
  pub is_on_cycle : on_cycle (length f) (image f) x ≡ true

-- l is the length of the cycle of x; its points are marked by 0, and the other marks are kept
pub record CycleCleared (f before : List ℕ) (x l : ℕ) (after : List ℕ) : Type 0 where
  pub long : l ≡ length (cycle_from (length f) (image f) x)
  pub cleared : (i : ℕ) → get_or after (iterate (image f) i x) 0 ≡ 0
  pub others : (y : ℕ) → ((i : ℕ) → y ≡ iterate (image f) i x → ⊥) → get_or after y 0 ≡ get_or before y 0

-- a table f with its points on cycles marked, and a 0 for every number from 0 to the number of points
pub record Blank (f marks counts : List ℕ) : Type 0 where
  pub marked : Marked f marks
  pub zeros : counts ≡ replicate (length f + 1) 0

-- the number of cycles of each length
pub record Counts (f counts : List ℕ) : Type 0 where
  pub size : length counts ≡ length f + 1
  pub count : (l : ℕ) → 0 < l → l ≤ length f → get_or counts l 0 ≡ cycles_of (length f) (image f) l
