-- What the period of a map is [document 02, paper 8: round length]. The promise cites the search of patterns/specs/Period.antt; that it finds this is proved here.
use Rattle.std.specs.Prelude.{◌≡◌, true, ℕ, ◌≤◌, ◌<◌}
use Rattle.patterns.specs.Table.{iterate, on_cycle}

module _ (n : ℕ) (f : ℕ → ℕ) where
  -- p steps bring every point that is on a cycle back
  abbrev pub BringsBack : ℕ → Type 0
  BringsBack p = (x : ℕ) → x < n → on_cycle n f x ≡ true → iterate f p x ≡ x

  -- k steps bring every point onto a cycle
  abbrev pub Settled : ℕ → Type 0
  Settled k = (x : ℕ) → x < n → on_cycle n f (iterate f k x) ≡ true

  -- after k steps, p further steps bring each point back
  abbrev pub BringsBackAfter : ℕ → ℕ → Type 0
  BringsBackAfter k p = (x : ℕ) → x < n → iterate f p (iterate f k x) ≡ iterate f k x

  -- p is the least number of steps, at least one, that brings every point of a cycle back
  pub record LeastPeriod (p : ℕ) : Type 0 where
    pub positive : 1 ≤ p
    pub is_back : BringsBack p
    pub least : (q : ℕ) → 1 ≤ q → BringsBack q → p ≤ q
