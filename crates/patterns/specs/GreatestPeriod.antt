-- Entry "the system that runs longest": document 02, paper 9. The paper's round length is the period of paper 8.
use Rattle.std.specs.Prelude.{◌≡◌, true, cond, List, ◌++◌, ℕ, ◌≤◌, ◌<◌, ltb, length, drop}
use Rattle.patterns.specs.declared.Refusal.{Refusal}
use Rattle.patterns.specs.declared.Refusal.TheVariants.{Count, Room, TooManyPoints}
use Rattle.patterns.specs.System.{System, weight, canonical}
use Rattle.patterns.specs.Written.{written}
use Rattle.patterns.specs.Table.{image}
use Rattle.patterns.specs.MapOf.{map_of}
use Rattle.patterns.specs.Period.{period}
use Rattle.patterns.specs.Reading.{Result, done, fault}
use Rattle.patterns.specs.Replies.{number_of, GreatestAnswer, greatest_is, greatest_refused}

-- S is "a code of n points" whose period is p, and "no map of n points has a greater one"
pub record GreatestPeriod (n : ℕ) (S : System) (p : ℕ) : Type 0 where
  pub valid : canonical S ≡ true
  pub points_are : weight S ≡ n
  pub reached : period n (image (map_of S)) ≡ p
  pub greatest : (f : ℕ → ℕ) → ((x : ℕ) → x < n → f x < n) → period n f ≤ p

-- "The count is judged by 1 and then 13; then a buffer of fewer than 1,000 bytes is 8, whichever code is chosen"
unfoldable pub checked_request : ℕ → List ℕ → Result ℕ
checked_request n out =
    let room = cond (ltb (length out) 1000) (fault Room) (done n) in
    cond (ltb 200 n) (fault Count) (cond (ltb 120 n) (fault TooManyPoints) room)

-- The reply, and what is left in the lent output. Which code is written "among several of equal length is open": it is some S with the greatest period p, and p is told.
pub data GreatestReplied (n : ℕ) (before : List ℕ) : GreatestAnswer → List ℕ → Type 0 where
  request_refused : {c : Refusal} → checked_request n before ≡ fault c → GreatestReplied n before (greatest_refused (number_of c)) before
  found : {S : System} {p : ℕ} → checked_request n before ≡ done n → GreatestPeriod n S p
      → GreatestReplied n before (greatest_is (length (written S)) p) (written S ++ drop (length (written S)) before)
