-- What a reader can hold the definition of `decimal` against: document 01, "decimal .., without leading zeros".
use Rattle.std.specs.Prelude.{◌≡◌, Bool, true, ◌&&◌, List, [], ◌∷◌, ℕ, ◌+◌, ◌-◌, ◌*◌, ◌≤◌, ◌<◌, leb}
use Rattle.lists.specs.Select.{each}

-- the number that these digits stand for, after digits that stand for v
unfoldable pub value_after : ℕ → List ℕ → ℕ
value_after v [] = v
value_after v (x ∷ l) = value_after (v * 10 + (x - 48)) l

-- `0` to `9`
abbrev pub is_digit : ℕ → Bool
is_digit x = leb 48 x && leb x 57

-- l is x in decimal digits, at least one, and more than one only after a first digit that is not `0`
pub record DecimalForm (x : ℕ) (l : List ℕ) : Type 0 where
  pub value : value_after 0 l ≡ x
  pub digits : each is_digit l ≡ true
  pub front : ℕ
  pub rest : List ℕ
  pub begins : l ≡ front ∷ rest
  pub no_zero : 10 ≤ x → 48 < front
  pub alone : x < 10 → rest ≡ []
