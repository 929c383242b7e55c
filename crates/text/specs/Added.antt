use Rattle.std.specs.Prelude.{◌≡◌, List, ◌++◌, ℕ, ◌+◌, length, take}

-- l was put into a buffer from `at` on and ends at r; before it stands what stood there, and what stands after it is left open
pub record Added (l : List ℕ) (at : ℕ) (before : List ℕ) (r : ℕ) (after : List ℕ) : Type 0 where
  pub end : r ≡ at + length l
  pub text : take r after ≡ take at before ++ l
