-- The rows of the census, held in two lists side by side.
use Rattle.std.specs.Prelude.{◌≡◌, not, List, ◌++◌, map, ℕ, ◌-◌, ◌≤◌, ◌<◌, eqb, length, get_or, take, drop}
use Rattle.lists.specs.Select.{keep, range}
use Rattle.patterns.specs.Table.{image}
use Rattle.patterns.specs.Census.{Row, rows_of, census_rows}
use Rattle.census.specs.declared.columns.Rows.{Rows}

-- the numbers from 1 on at which the list of counts is not 0
abbrev pub counted : List ℕ → List ℕ
counted tallies = keep (λ l. not (eqb (get_or tallies l 0) 0)) (range 1 (length tallies - 1))

-- a list of counts, and room for its rows
pub record RowsRoom (tallies lengths counts : List ℕ) : Type 0 where
  pub some : 0 < length tallies
  pub bytes : length tallies ≤ 256
  pub lengths_room : length (counted tallies) ≤ length lengths
  pub counts_room : length (counted tallies) ≤ length counts

-- The rows of a list of counts stand in the first places of both lists, by rising length, and the other places are kept.
pub record Listed (tallies lengths₀ counts₀ : List ℕ) (rows : ℕ) (lengths counts : List ℕ) : Type 0 where
  pub many : rows ≡ length (counted tallies)
  pub lengths_are : lengths ≡ counted tallies ++ drop rows lengths₀
  pub counts_are : counts ≡ map (λ l. get_or tallies l 0) (counted tallies) ++ drop rows counts₀

-- the rows that r holds
abbrev pub rows_in : Rows → List Row
rows_in r = rows_of (take r.rows r.lengths) (take r.rows r.counts)

-- r holds the rows of the census of the table f
pub record RowsOf (f : List ℕ) (r : Rows) : Type 0 where
  pub rows_are : rows_in r ≡ census_rows (length f) (image f)
  pub few : r.rows ≤ 19
