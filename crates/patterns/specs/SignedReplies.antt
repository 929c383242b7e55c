-- The replies of documents 01 and 02 as one signed number, for callers in C: what is counted is itself, a refusal is minus its number, "last" is −100, "none" is −101
-- and "first" is −102, far from the causes, of which there may be more one day.
use Rattle.std.specs.Prelude.{◌≡◌, List, ℕ, ℤ, pos, neg_ℤ}
use Rattle.patterns.specs.Replies.{Answer, length_is, last, first_of_list, lacking, refused, PageAnswer, page_is, page_refused, GreatestAnswer, greatest_is, greatest_refused}
use Rattle.patterns.specs.Census.{rows_of}
use Rattle.patterns.specs.Entry.{Outcome, answer, answered, filled, component_of, IsomorphismReplied, rows_found, ColumnsFilled}
use Rattle.patterns.specs.System.{System}
use Rattle.patterns.specs.Reading.{Result}
use Rattle.patterns.specs.Page.{page_found, page_answered}
use Rattle.patterns.specs.GreatestPeriod.{GreatestReplied}

abbrev pub signed_of : Answer → ℤ
signed_of (length_is n) = pos n
signed_of last = neg_ℤ (pos 100)
signed_of first_of_list = neg_ℤ (pos 102)
signed_of lacking = neg_ℤ (pos 101)
signed_of (refused c) = neg_ℤ (pos c)

-- an entry that found o replied with the number r and left the output so
pub record Reported (o : Outcome ℕ) (before : List ℕ) (r : ℤ) (after : List ℕ) : Type 0 where
  pub number : r ≡ signed_of (answered o before)
  pub output : after ≡ filled o before

-- the isomorphism entry replied with the number r
pub record IsomorphismReported (f g before : List ℕ) (r : ℤ) (after : List ℕ) : Type 0 where
  pub reply : Answer
  pub number : r ≡ signed_of reply
  pub replied : IsomorphismReplied f g before reply after

-- the census entry replied with the number r and left the two columns so
pub record CensusReported (f lengths counts : List ℕ) (r : ℤ) (lengths' counts' : List ℕ) : Type 0 where
  pub number : r ≡ signed_of (answered (rows_found f) (rows_of lengths counts))
  pub output : ColumnsFilled f lengths counts lengths' counts'

-- of a page, how many codes it has alone, or the refusal
abbrev pub page_count : PageAnswer → Answer
page_count (page_is codes bytes) = length_is codes
page_count (page_refused c) = refused c

-- and how many bytes they take
abbrev pub page_length : PageAnswer → Answer
page_length (page_is codes bytes) = length_is bytes
page_length (page_refused c) = refused c

-- the page entry replied with these two numbers, both a refusal where there is one
pub record PageReported (found : Result (List System)) (before : List ℕ) (codes bytes : ℤ) (after : List ℕ) : Type 0 where
  pub codes_are : codes ≡ signed_of (page_count (page_answered found before))
  pub bytes_are : bytes ≡ signed_of (page_length (page_answered found before))
  pub output : after ≡ filled (page_found found) before

-- of a code with the greatest period, how many bytes it has alone, or the refusal
abbrev pub code_length : GreatestAnswer → Answer
code_length (greatest_is length period) = length_is length
code_length (greatest_refused c) = refused c

-- and its period
abbrev pub code_period : GreatestAnswer → Answer
code_period (greatest_is length period) = length_is period
code_period (greatest_refused c) = refused c

-- the entry of the greatest period replied with these two numbers, both a refusal where there is one
pub record GreatestReported (n : ℕ) (before : List ℕ) (length period : ℤ) (after : List ℕ) : Type 0 where
  pub reply : GreatestAnswer
  pub length_told : length ≡ signed_of (code_length reply)
  pub period_told : period ≡ signed_of (code_period reply)
  pub replied : GreatestReplied n before reply after

-- where the bytes of the component at position i begin and end in the code b and how many of its rotations equal it, or the refusal
abbrev pub component_start : List ℕ → ℕ → Answer
component_start b i = answer (component_of b i) (λ part. length_is part.start)

abbrev pub component_end : List ℕ → ℕ → Answer
component_end b i = answer (component_of b i) (λ part. length_is part.end)

abbrev pub component_turns : List ℕ → ℕ → Answer
component_turns b i = answer (component_of b i) (λ part. length_is part.turns)
