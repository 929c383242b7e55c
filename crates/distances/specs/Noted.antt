-- Lists that note distances from cycles.
use Rattle.std.specs.Prelude.{◌≡◌, true, false, List, ℕ, suc, ◌≤◌, ◌<◌, length, get_or}
use Rattle.patterns.specs.Table.{image, is_table, on_cycle}
use Rattle.patterns.specs.Census.{steps_to_cycle}

-- the distance of a point of a table from its cycle
abbrev pub distance_in : List ℕ → ℕ → ℕ
distance_in f x = steps_to_cycle (length f) (image f) (length f) x

-- A place of noted is 0, or one more than the distance of its point; the points on cycles are noted.
pub record Noted (f noted : List ℕ) : Type 0 where
  pub same : length noted ≡ length f
  pub right : (x : ℕ) → x < length f → (get_or noted x 0 ≡ 0 → ⊥) → get_or noted x 0 ≡ suc (distance_in f x)
  pub off_cycles : (x : ℕ) → x < length f → get_or noted x 0 ≡ 0 → on_cycle (length f) (image f) x ≡ false

-- a table of at most 200 points with such a list
pub record NotedTable (f noted : List ℕ) : Type 0 where
  pub table : is_table f ≡ true
  pub small : length f ≤ 200
  pub is_noted : Noted f noted

-- every number of a list is at most m
abbrev pub Within : ℕ → List ℕ → Type 0
Within m l = (z : ℕ) → z < length l → get_or l z 0 ≤ m

-- d and lesser distances are noted
pub record WayNoted (f noted : List ℕ) (d : ℕ) (noted' : List ℕ) : Type 0 where
  pub is_noted : Noted f noted'
  pub within : (m : ℕ) → suc d ≤ m → Within m noted → Within m noted'
