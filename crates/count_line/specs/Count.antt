-- Which inputs of the listing program are good: document 01, "The listing program reads a decimal count from 0 to 14, without leading zeros, and one newline,
-- and nothing after it".
use Rattle.std.specs.Prelude.{◌≡◌, List, ℕ, ◌≤◌, Option, Some, None}
use Rattle.patterns.specs.ListingText.{count_line}

-- the good inputs are the lines of 0 to 14
pub data Reads (input : List ℕ) : Option ℕ → Type 0 where
  good : {n : ℕ} → n ≤ 14 → input ≡ count_line n → Reads input (Some n)
  bad : ((n : ℕ) → n ≤ 14 → input ≡ count_line n → ⊥) → Reads input None
