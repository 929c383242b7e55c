-- Cycle lengths in memory.
use Rattle.std.specs.Prelude.{◌≡◌, true, List, map, ℕ, ◌≤◌, length, drop}
use Rattle.patterns.specs.Generation.{cycle}
use Rattle.patterns.specs.System.{weight, canonical}

-- from place r on, sizes holds the lengths l
pub record LengthsFrom (r : ℕ) (sizes l : List ℕ) : Type 0 where
  pub within : r ≤ length sizes
  pub are : drop r sizes ≡ l

-- the cycles of these lengths are a code, and there is a place for each of their points, and room for every code
pub record CyclesAsked (lengths trees out : List ℕ) : Type 0 where
  pub valid : canonical (map cycle lengths) ≡ true
  pub points_are : weight (map cycle lengths) ≡ length trees
  pub small : length trees ≤ 200
  pub room : 1000 ≤ length out
