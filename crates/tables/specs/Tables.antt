-- A table that passes the checks, and what the check of a table answers.
use Rattle.std.specs.Prelude.{◌≡◌, true, List, ℕ, ◌≤◌, length, Result as Reply, Ok, Err}
use Rattle.patterns.specs.Table.{is_table}
use Rattle.patterns.specs.Reading.{Result, done, fault}
use Rattle.patterns.specs.Entry.{checked_table}
use Rattle.patterns.specs.declared.Refusal.{Refusal}
use Rattle.tables.specs.declared.Table.{Table as TheTable}

-- f itself where the outcome of some checks of it is f, and the cause where it is a fault
abbrev pub CheckedBy : Result (List ℕ) → List ℕ → Reply TheTable Refusal → Type 0
CheckedBy o f (Ok t) = (t.images.now ≡ f) × (o ≡ done f)
CheckedBy o f (Err c) = o ≡ fault c

-- by the checks of a table
abbrev pub Checked : List ℕ → Reply TheTable Refusal → Type 0
Checked f r = CheckedBy (checked_table f) f r

-- a table of at most 200 points
pub record Table (f : List ℕ) : Type 0 where
  pub table : is_table f ≡ true
  pub small : length f ≤ 200
