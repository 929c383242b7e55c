-- The census in two lent slices: the rows of document 01's lent list are the cycle lengths in one with the numbers of cycles beside them in the other, as
-- many as the shorter has places.
use Rattle.std.specs.Prelude.{◌≡◌, List, ◌++◌, ℕ, take, drop}
use Rattle.census.specs.declared.columns.Rows.{Rows}

-- the first n rows fill the first places of both slices
pub record ColumnsPut (rows : Rows) (n : ℕ) (lengths counts lengths' counts' : List ℕ) : Type 0 where
  pub lengths_are : lengths' ≡ take n rows.lengths ++ drop n lengths
  pub counts_are : counts' ≡ take n rows.counts ++ drop n counts
