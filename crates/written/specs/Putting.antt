-- What the writing functions answer, and what they leave in the lent output.
use Rattle.std.specs.Prelude.{◌≡◌, List, ◌++◌, ℕ, ◌+◌, length, take, drop}

-- l stands in d from p on, and all else is as it was
abbrev pub placed : {A : Type 0} → ℕ → List A → List A → List A
placed p l d = take p d ++ (l ++ drop (p + length l) d)

-- l was written from place `at` on, and r is the place after it
pub record Placed (l : List ℕ) (at : ℕ) (before : List ℕ) (r : ℕ) (after : List ℕ) : Type 0 where
  pub end : r ≡ at + length l
  pub output : after ≡ placed at l before
