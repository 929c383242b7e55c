-- The rows of a list that counts the cycles of a map by their length are the census of the map, at most 19 for at most 200 points, and their lengths are those that
-- occur.
use mathlib.Core.Path.{◌≡◌, ap, sym, ◌∙◌}
use mathlib.Core.List.{List, map}
use mathlib.Core.Bool.{Bool, not}
use Prim.Native.Nat.{ℕ, ◌-◌, ◌≤◌, ◌<◌}
use native.Mathlib.Omega.{arith}
use lib.Dec.{eqb}
use lib.ListN.{length, get_or, take, drop, length-map}
use lib.Seq.{take_at, length-take-le}
use Rattle.lists.specs.Select.{keep, range}
use Rattle.lists.proofs.Tests.{◌∈◌}
use Rattle.lists.proofs.Members.{of_range, of-keep}
use Rattle.lists.proofs.Gathering.{map_same, keep_same}
use Rattle.patterns.specs.Table.{image}
use Rattle.patterns.specs.Census.{Row, rows_of, cycles_of, occurring, census_rows}
use Rattle.map_theory.proofs.SideBySide.{rows-lengths, rows-given}
use Rattle.map_theory.proofs.Occurring.{row-lengths, occurring-few}
use Rattle.census.specs.Counts.{Counts}
use Rattle.census.specs.declared.columns.Rows.{Rows}
use Rattle.census.specs.Rows.{counted, RowsRoom, Listed, RowsOf}

-- what stands in the first places
module _ {tallies lengths₀ counts₀ lengths counts : List ℕ} {rows : ℕ} (d : Listed tallies lengths₀ counts₀ rows lengths counts) where
  pub listed-lengths : take rows lengths ≡ counted tallies
  listed-lengths = ap (take rows) d.lengths_are ∙ take_at (counted tallies) (drop rows lengths₀) rows (sym d.many)

  pub listed-counts : take rows counts ≡ map (λ l. get_or tallies l 0) (counted tallies)
  listed-counts =
      ap (take rows) d.counts_are
      ∙ take_at (map (λ l. get_or tallies l 0) (counted tallies)) (drop rows counts₀) rows (length-map (counted tallies) (λ l. get_or tallies l 0) ∙ sym d.many)

module _ (f tallies : List ℕ) (c : Counts f tallies) where
  abbrev tally : ℕ → ℕ
  tally l = get_or tallies l 0

  abbrev cycles_are : ℕ → ℕ
  cycles_are = cycles_of (length f) (image f)

  abbrev occurs : (ℕ → ℕ) → ℕ → Bool
  occurs g l = not (eqb (g l) 0)

  tally-is : (l : ℕ) → l ∈ range 1 (length f) → tally l ≡ cycles_are l
  tally-is l m = let s = of_range 1 (length f) m in c.count l (omega arith) (omega arith)

  -- the lengths that are counted are those that occur
  counted-occurring : counted tallies ≡ occurring (length f) (image f)
  unfolding occurring
  counted-occurring =
      let e : length tallies - 1 ≡ length f = omega (arith, c.size) in
      ap (λ k. keep (occurs tally) (range 1 k)) e
      ∙ keep_same (occurs tally) (occurs cycles_are) (range 1 (length f)) (λ l m. ap (λ k. not (eqb k 0)) (tally-is l m))

  -- the rows of the tallies are the census
  pub counted-rows : rows_of (counted tallies) (map tally (counted tallies)) ≡ census_rows (length f) (image f)
  unfolding occurring census_rows
  counted-rows =
      rows-given tally (counted tallies)
      ∙ ap (map (λ l. record { cycle_length = l; cycles = tally l })) counted-occurring
      ∙ map_same (λ l. record { cycle_length = l; cycles = tally l }) (λ l. record { cycle_length = l; cycles = cycles_are l }) (occurring (length f) (image f))
      (λ l m. ap (λ k. record { cycle_length = l; cycles = k }) (tally-is l (of-keep (occurs cycles_are) (range 1 (length f)) m).0))

  module _ (inside : (x : ℕ) → x < length f → image f x < length f) (small : length f ≤ 200) where
    -- there are at most 19
    counted-few : length (counted tallies) ≤ 19
    counted-few = omega (arith, ap length counted-occurring, occurring-few (length f) (image f) inside small)

    -- 19 places are room for the rows
    pub counted-room : {lengths counts : List ℕ} → length lengths ≡ 19 → length counts ≡ 19 → RowsRoom tallies lengths counts
    counted-room a b =
        let k = counted-few in
        record { some = omega (arith, c.size); bytes = omega (arith, c.size); lengths_room = omega arith; counts_room = omega arith }

    -- the rows listed are those of the map
    pub rows-listed : {lengths₀ counts₀ lengths counts : List ℕ} {rows : ℕ} → Listed tallies lengths₀ counts₀ rows lengths counts
        → RowsOf f (record { lengths = lengths; counts = counts; rows = rows })
    rows-listed {lengths₀} {counts₀} {lengths} {counts} {rows} d =
        let ls : take rows lengths ≡ counted tallies = listed-lengths d in
        let cs : take rows counts ≡ map tally (counted tallies) = listed-counts d in
        record { rows_are = rw (ls, cs) counted-rows; few = omega (arith, d.many, counted-few) }

-- The lengths that have a row are those that occur.
pub rows-occurring : {f : List ℕ} (r : Rows) → length r.lengths ≡ 19 → length r.counts ≡ 19 → RowsOf f r
    → take r.rows r.lengths ≡ occurring (length f) (image f)
rows-occurring {f} r a b w =
    let few = w.few in
    let e = length-take-le r.rows r.lengths (omega arith) ∙ sym (length-take-le r.rows r.counts (omega arith)) in
    sym (rows-lengths (take r.rows r.lengths) (take r.rows r.counts) e)
    ∙ ap (map (λ (r : Row). r.cycle_length)) w.rows_are
    ∙ row-lengths (length f) (image f)
