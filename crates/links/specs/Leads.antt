-- Leaders of cycles, found without walking round each cycle again and again: from each point on a cycle to the first one after it that is not greater.
use Rattle.std.specs.Prelude.{◌≡◌, true, List, ℕ, ◌+◌, ◌≤◌, ◌<◌, eqb, length, get_or}
use Rattle.patterns.specs.Table.{image, iterate, on_cycle, leads_cycle}
use Rattle.cycles.specs.Marks.{Marked}

-- y is the first point after x that is not greater than x
pub record Descends (f : ℕ → ℕ) (x y : ℕ) : Type 0 where
  pub steps : ℕ
  pub begun : 0 < steps
  pub comes : y ≡ iterate f steps x
  pub not_above : y ≤ x
  pub above : (i : ℕ) → 0 < i → i < steps → x < iterate f i x

-- lesser has that point for each point from x on that is on a cycle, and 255 for every other point
pub record Lesser (f lesser : List ℕ) (x : ℕ) : Type 0 where
  pub room : length lesser ≡ length f
  pub passed : x ≤ length f
  pub on : (z : ℕ) → x ≤ z → z < length f → on_cycle (length f) (image f) z ≡ true → Descends (image f) z (get_or lesser z 0)
  pub others : (z : ℕ) → z < length f → (x ≤ z → on_cycle (length f) (image f) z ≡ true → ⊥) → get_or lesser z 0 ≡ 255

-- x is a point on a cycle, and the greater points are done
pub record LesserAsked (f lesser : List ℕ) (x : ℕ) : Type 0 where
  pub here : x < length f
  pub is_on_cycle : on_cycle (length f) (image f) x ≡ true
  pub greater : Lesser f lesser (x + 1)

-- a table with its marks, and room for a point for each point
pub record LeadsAsked (f marks leads : List ℕ) : Type 0 where
  pub marked : Marked f marks
  pub room : length leads ≡ length f

-- the points that stand at their own places are the leaders
pub record Leads (f leads : List ℕ) : Type 0 where
  pub room : length leads ≡ length f
  pub leads_are : (x : ℕ) → x < length f → eqb (get_or leads x 0) x ≡ leads_cycle (length f) (image f) x
