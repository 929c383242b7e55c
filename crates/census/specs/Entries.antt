-- The rows of the census as the structs of a lent slice.
use Rattle.std.specs.Prelude.{ℕ, get_or}
use Rattle.patterns.specs.Census.{Row}
use Rattle.census.specs.declared.columns.Rows.{Rows}

-- row i of those that r holds
abbrev pub row_in : Rows → ℕ → Row
row_in r i = record { cycle_length = get_or r.lengths i 0; cycles = get_or r.counts i 0 }
