-- What the check of the period answers.
use Rattle.std.specs.Prelude.{◌≡◌, List, ℕ, ◌≤◌, length, Result, Ok, Err}
use Rattle.patterns.specs.Reading.{done, fault}
use Rattle.patterns.specs.Period.{checked_small}
use Rattle.patterns.specs.declared.Refusal.{Refusal}
use Rattle.tables.specs.declared.Table.{Table}

-- f itself where it passes the checks of the period, and then it has at most 120 points; the cause where it does not
abbrev pub SmallChecked : List ℕ → Result Table Refusal → Type 0
SmallChecked f (Ok t) = (t.images.now ≡ f) × (checked_small f ≡ done f) × (length f ≤ 120)
SmallChecked f (Err c) = checked_small f ≡ fault c
