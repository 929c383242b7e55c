-- What the census entries decide before they write.
use Rattle.std.specs.Prelude.{◌≡◌, List, ◌++◌, ℕ, ◌≤◌, length, take, drop, Result, Ok, Err}
use Rattle.patterns.specs.declared.Refusal.{Refusal}
use Rattle.patterns.specs.Census.{Row, rows_of}
use Rattle.patterns.specs.Replies.{length_is, refused, number_of}
use Rattle.patterns.specs.Entry.{answered, filled, rows_found}
use Rattle.census.specs.declared.columns.Rows.{Rows}

-- the first n rows
abbrev pub first_rows : Rows → ℕ → List Row
first_rows rows n = rows_of (take n rows.lengths) (take n rows.counts)

-- whoever writes the rows into the first places of any list of that many places leaves in it what the census of f asks for, and their number is its reply
pub record RowsDecided (f : List ℕ) (places : ℕ) (rows : Rows) : Type 0 where
  pub few : rows.rows ≤ 19
  pub fits : rows.rows ≤ places
  pub output : (before : List Row) → length before ≡ places → first_rows rows rows.rows ++ drop rows.rows before ≡ filled (rows_found f) before
  pub reply : (before : List Row) → length before ≡ places → length_is rows.rows ≡ answered (rows_found f) before

-- the census of f asks that nothing is written into such a list, and the cause is its reply
pub record Refuses (f : List ℕ) (places : ℕ) (cause : Refusal) : Type 0 where
  pub nothing : (before : List Row) → length before ≡ places → before ≡ filled (rows_found f) before
  pub reply : (before : List Row) → length before ≡ places → refused (number_of cause) ≡ answered (rows_found f) before

-- the rows to write, or the cause
abbrev pub Chosen : List ℕ → ℕ → Result Rows Refusal → Type 0
Chosen f places (Ok rows) = RowsDecided f places rows
Chosen f places (Err cause) = Refuses f places cause
