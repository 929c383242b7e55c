-- What follows from the promises of the census entries: the rows that are written are a census of the map by rising length, nothing of them is left open, and maps
-- with the same code get the same rows.
use mathlib.Core.Path.{◌≡◌, refl, ap, sym, ◌∙◌}
use mathlib.Core.List.{List, map}
use Prim.Native.Nat.{ℕ, ◌≤◌, compare}
use native.Mathlib.Omega.{arith}
use lib.Dec.{leb, ltb}
use lib.ListN.{length, take, drop, length-take, length-map}
use lib.Seq.{take-append-le}
use Rattle.lists.proofs.Tests.{by-test, clash}
use Rattle.lists.proofs.Rising.{Rising}
use Rattle.lists.proofs.Gathering.{take-map}
use Rattle.patterns.specs.declared.Refusal.TheVariants.{Count, Image}
use Rattle.patterns.specs.Table.{image, is_table, system_of, system_of_table}
use Rattle.patterns.specs.Census.{Row, rows_of, cycles_of, occurring, census_rows}
use Rattle.patterns.specs.Reading.{Result, done, fault}
use Rattle.patterns.specs.Replies.{length_is, census_is, census_refused}
use Rattle.patterns.specs.Entry.{gives, fails, outcome, answered, filled, checked_table, code_of_map, census_of, rows_found, census_answered, CensusReplied, column_filled, ColumnsReplied}
use Rattle.map_theory.specs.UnorderedCensus.{IsCensus}
use Rattle.map_theory.proofs.Occurring.{row-lengths, row_counts, rows-rise, rows-are-census, census-only, same_rows}
use Rattle.patterns.proofs.Outcomes.{result-written}
use Rattle.engine.proofs.Theorems.{same-systems, same_points}

-- rows are found of a table only
rows-found : (f : List ℕ) {rows : List Row} → rows_found f ≡ gives rows → (checked_table f ≡ done f) × (rows ≡ census_rows (length f) (image f))
unfolding census_of checked_table
rows-found f {rows} e =
    by-test (ltb 200 (length f))
    (λ t. let k : fails Count ≡ gives rows = sym (rw t) ∙ e in clash cc)
    (λ t.
    by-test (is_table f)
    (λ u.
    let k : gives (census_rows (length f) (image f)) ≡ gives rows = sym (rw (t, u)) ∙ e in
    let z : census_rows (length f) (image f) ≡ rows = cc in
    (rw (t, u), sym z))
    (λ u. let k : fails Image ≡ gives rows = sym (rw (t, u)) ∙ e in clash cc))

-- the number of rows beside the other number of a census
number-of-rows : (f : List ℕ) (before : List Row) {k h : ℕ} (o : Result (List Row)) → census_is k h ≡ census_answered f o before
    → length_is k ≡ answered (outcome o gives) before
number-of-rows f before {k} {h} (done rows) e =
    by-test (leb (length rows) (length before))
    (λ t. let q = rw t at e in let z : k ≡ length rows = cc in rw t (ap length_is z))
    (λ t. let q : census_is k h ≡ census_refused 8 = e ∙ rw t in clash cc)
number-of-rows f before (fault c) e = clash cc

-- What "census" writes into a list of rows.
module _ {f : List ℕ} {before after : List Row} {k h : ℕ} (p : CensusReplied f before (census_is k h) after) where
  census-found : (checked_table f ≡ done f) × (take k after ≡ census_rows (length f) (image f)) × (k ≡ length (census_rows (length f) (image f)))
  census-found =
      let r = result-written (rows_found f) {before = before} {after = after} (record { reply = number-of-rows f before (census_of f) p.reply; output = p.output }) in
      let s = rows-found f r.1 in
      (s.0, r.3 ∙ s.1, r.2 ∙ ap length s.1)

  -- the rows are those of the definition
  pub census-written : take k after ≡ census_rows (length f) (image f)
  census-written = census-found.1

  -- their lengths rise
  pub census-rises : Rising compare (map (λ r. r.cycle_length) (take k after))
  census-rises = rw census-written (rows-rise (length f) (image f))

  -- they are a census as document 01 asked for it, and no other rows that are one rise
  pub census-counts : IsCensus (length f) (image f) (take k after)
  census-counts = rw census-written (rows-are-census (length f) (image f))

  pub census-fixed : (rows : List Row) → IsCensus (length f) (image f) rows → Rising compare (map (λ r. r.cycle_length) rows) → take k after ≡ rows
  census-fixed rows c rises = census-written ∙ sym (census-only (length f) (image f) rows c rises)

-- What the census in columns writes: the lengths that occur, rising, and the number of cycles of each.
module _ {f lengths counts lengths' counts' : List ℕ} {k : ℕ} (p : ColumnsReplied f lengths counts (length_is k) lengths' counts') where
  column-first : (part : Row → ℕ) (before : List ℕ) → take k (column_filled f (rows_of lengths counts) part before) ≡ map part (census_rows (length f) (image f))
  column-first part before =
      let places = rows_of lengths counts in
      let after = filled (rows_found f) places in
      let r = result-written (rows_found f) {before = places} {after = after} (record { reply = p.reply; output = refl }) in
      let rows : take k after ≡ census_rows (length f) (image f) = r.3 ∙ (rows-found f r.1).1 in
      let long : k ≤ length (map part after) = omega (arith, length-map after part, r.2, ap length r.3, length-take k after) in
      take-append-le k (map part after) (drop (length places) before) long ∙ take-map k part after ∙ ap (map part) rows

  pub columns-written : (take k lengths' ≡ occurring (length f) (image f)) × (take k counts' ≡ map (cycles_of (length f) (image f)) (occurring (length f) (image f)))
  columns-written = (
    ap (take k) p.output.lengths_are ∙ column-first (λ r. r.cycle_length) lengths ∙ row-lengths (length f) (image f),
    ap (take k) p.output.counts_are ∙ column-first (λ r. r.cycles) counts ∙ row_counts (length f) (image f),
  )

-- Two maps with the same code: their censuses, laid side by side, have the same rows.
pub same-code-same-census : {f g : List ℕ} {before after before' after' : List Row} {k h k' h' : ℕ} → code_of_map f ≡ code_of_map g
    → CensusReplied f before (census_is k h) after → CensusReplied g before' (census_is k' h') after' → (k ≡ k') × (take k after ≡ take k' after')
unfolding system_of_table
same-code-same-census {f} {g} e p q =
    let a = census-found p in
    let b = census-found q in
    let points = same_points f g a.0 b.0 e in
    let systems : system_of (length f) (image f) ≡ system_of (length f) (image g) = same-systems f g a.0 b.0 e ∙ ap (λ n. system_of n (image g)) (sym points) in
    let rows : census_rows (length f) (image f) ≡ census_rows (length g) (image g) =
    same_rows (length f) (image f) (image g) systems ∙ ap (λ n. census_rows n (image g)) points in
    (a.2 ∙ ap length rows ∙ sym b.2, a.1 ∙ rows ∙ sym b.1)
