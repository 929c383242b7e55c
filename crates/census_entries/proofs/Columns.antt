-- The rows of a census in two lent slices.
use mathlib.Core.Path.{◌≡◌, ap, ap₂, sym, ◌∙◌}
use mathlib.Core.List.{List, ◌++◌, map, append_assoc, map-append}
use Prim.Native.Nat.{ℕ, ◌+◌, ◌≤◌, min}
use native.Mathlib.Omega.{arith}
use native.Mathlib.Nat.{min-le_left, min-le_right}
use lib.ListN.{length, take, drop, length-drop}
use lib.Seq.{length-take-le, drop-drop}
use Rattle.patterns.specs.Census.{Row, rows_of}
use Rattle.patterns.specs.Entry.{ColumnsFilled}
use Rattle.census.specs.declared.columns.Rows.{Rows}
use Rattle.map_theory.proofs.SideBySide.{rows-lengths, rows-counts, first-list, second-list, rows-places, rows_drop}
use Rattle.patterns.specs.declared.Refusal.{Refusal}
use Rattle.census_entries.specs.Decisions.{first_rows, RowsDecided, Refuses}
use Rattle.census_entries.specs.Columns.{ColumnsPut}

-- the first m entries of a column, whatever part of the rows they are, and what the column held behind them
column-put : (part : Row → ℕ) (m : ℕ) (a column : List ℕ) (first places : List Row) → map part first ≡ a → m ≤ length places
    → drop m column ≡ map part (drop m places) ++ drop (length (drop m places)) (drop m column)
    → a ++ drop m column ≡ map part (first ++ drop m places) ++ drop (length places) column
column-put part m a column first places e fits behind =
    let k : m + length (drop m places) ≡ length places = omega (arith, length-drop m places) in
    ap₂ ◌++◌ (sym e) (behind ∙ ap (λ l. map part (drop m places) ++ l) (drop-drop (length (drop m places)) m column ∙ ap (λ i. drop i column) k))
    ∙ sym (append_assoc (map part first) (map part (drop m places)) (drop (length places) column))
    ∙ ap (λ l. l ++ drop (length places) column) (sym (map-append part first (drop m places)))

-- what is to be written into as many places as both slices have is put into them
module _ {f : List ℕ} {rows : Rows} (lengths counts : List ℕ) (w : RowsDecided f (min (length lengths) (length counts)) rows) where
  abbrev m : ℕ
  m = rows.rows

  pub columns-fit : (m ≤ length lengths) × (m ≤ length counts)
  columns-fit =
      let l = min-le_left (length lengths) (length counts) in
      let k = min-le_right (length lengths) (length counts) in
      (omega (arith, w.fits), omega (arith, w.fits))

  module _ (lengths-all : length rows.lengths ≡ 19) (Counts-all : length rows.counts ≡ 19) where
    abbrev a : List ℕ
    a = take m rows.lengths

    abbrev b : List ℕ
    b = take m rows.counts

    front : (length a ≡ m) × (length b ≡ m)
    front = (length-take-le m rows.lengths (omega (arith, w.few)), length-take-le m rows.counts (omega (arith, w.few)))

    pub columns-filled : {lengths' counts' : List ℕ} → ColumnsPut rows m lengths counts lengths' counts' → ColumnsFilled f lengths counts lengths' counts'
    columns-filled p =
        let places = rows_of lengths counts in
        let fits : m ≤ length places = omega (arith, w.fits, rows-places lengths counts) in
        let beside : length a ≡ length b = front.0 ∙ sym front.1 in
        let behind : rows_of (drop m lengths) (drop m counts) ≡ drop m places = rows_drop m lengths counts in
        let told = w.output places (rows-places lengths counts) in
        record {
          lengths_are =
              p.lengths_are
              ∙ column-put (λ r. r.cycle_length) m a lengths (first_rows rows m) places (rows-lengths a b beside) fits (rw behind at (first-list (drop m lengths) (drop m counts)))
              ∙ ap (λ l. map (λ (r : Row). r.cycle_length) l ++ drop (length places) lengths) told;
          counts_are =
              p.counts_are
              ∙ column-put (λ r. r.cycles) m b counts (first_rows rows m) places (rows-counts a b beside) fits (rw behind at (second-list (drop m lengths) (drop m counts)))
              ∙ ap (λ l. map (λ (r : Row). r.cycles) l ++ drop (length places) counts) told;
        }

-- nothing is put
pub columns-kept : {f : List ℕ} {cause : Refusal} (lengths counts : List ℕ) → Refuses f (min (length lengths) (length counts)) cause
    → ColumnsFilled f lengths counts lengths counts
columns-kept lengths counts r =
    let places = rows_of lengths counts in
    let told = r.nothing places (rows-places lengths counts) in
    record {
      lengths_are = first-list lengths counts ∙ ap (λ l. map (λ (r : Row). r.cycle_length) l ++ drop (length places) lengths) told;
      counts_are = second-list lengths counts ∙ ap (λ l. map (λ (r : Row). r.cycles) l ++ drop (length places) counts) told;
    }
