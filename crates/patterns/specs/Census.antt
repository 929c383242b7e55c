-- The census of a map: document 01, "Refusing", last but one paragraph; document 02, paper 1, which fixes the order of its rows, and paper 8, which takes the round
-- length out of it.
use Rattle.std.proofs.Math.Bool.{cond, not}
use mathlib.Core.List.{List, [], ◌∷◌, map}
use Prim.Native.Nat.{ℕ, zero, suc}
use Rattle.std.specs.Prelude.{leb, eqb}
use Rattle.std.proofs.Math.ListN.{length}
use Rattle.lists.specs.Select.{keep, range, times}
use Rattle.patterns.specs.Table.{on_cycle, cycle_from, leaders}

abbrev pub greatest : List ℕ → ℕ
greatest [] = 0
greatest (x ∷ l) = let m = greatest l in cond (leb m x) x m

-- a cycle length and the number of cycles of that length
pub record Row : Type 0 where
  pub cycle_length : ℕ
  pub cycles : ℕ

-- the rows of two lists side by side
abbrev pub rows_of : List ℕ → List ℕ → List Row
rows_of [] counts = []
rows_of (l ∷ lengths) [] = []
rows_of (l ∷ lengths) (c ∷ counts) = record { cycle_length = l; cycles = c } ∷ rows_of lengths counts

module _ (n : ℕ) (f : ℕ → ℕ) where
  -- the lengths of the cycles, one for each cycle
  unfoldable pub cycle_lengths : List ℕ
  unfolding leaders cycle_from
  cycle_lengths = map (λ x. length (cycle_from n f x)) (leaders n f)

  -- how many cycles have length l
  unfoldable pub cycles_of : ℕ → ℕ
  unfolding cycle_lengths
  cycles_of l = times l cycle_lengths

  -- the cycle lengths that occur, rising; no cycle of n points is longer than n
  unfoldable pub occurring : List ℕ
  unfolding cycles_of
  occurring = keep (λ l. not (eqb (cycles_of l) 0)) (range 1 n)

  -- Paper 1: a row for each length that occurs, with its number of cycles, by rising length.
  unfoldable pub census_rows : List Row
  unfolding occurring cycles_of
  census_rows = map (λ l. record { cycle_length = l; cycles = cycles_of l }) occurring

  -- the steps from x to its cycle, at most k
  unfoldable pub steps_to_cycle : ℕ → ℕ → ℕ
  unfolding on_cycle
  steps_to_cycle zero x = 0
  steps_to_cycle (suc k) x =
      let further = suc (steps_to_cycle k (f x)) in
      cond (on_cycle n f x) 0 further

  -- the greatest distance of a point from its cycle
  unfoldable pub height : ℕ
  unfolding steps_to_cycle
  height = greatest (map (steps_to_cycle n) (range 0 n))
