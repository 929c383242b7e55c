-- A census as document 01 asked for it, before paper 1 of document 02 fixed the order of its rows.
use Rattle.std.specs.Prelude.{◌≡◌, cond, List, map, ℕ, eqb}
use Rattle.lists.specs.Select.{times}
use Rattle.patterns.specs.Census.{Row, cycles_of}

-- every occurring length has one row, with its number of cycles; the order of the rows is free
pub record IsCensus (n : ℕ) (f : ℕ → ℕ) (rows : List Row) : Type 0 where
  pub once : (l : ℕ) → times l (map (λ r. r.cycle_length) rows) ≡ cond (eqb (cycles_of n f l) 0) 0 1
  pub counted : map (λ r. r.cycles) rows ≡ map (λ r. cycles_of n f r.cycle_length) rows
