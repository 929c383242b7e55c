-- What the census entries decide, and that writing it keeps the promise.
use mathlib.Core.Path.{◌≡◌, ap, sym, ◌∙◌}
use mathlib.Core.Bool.{true, false}
use mathlib.Core.List.{List, ◌++◌}
use Prim.Native.Nat.{ℕ, ◌≤◌, ◌<◌}
use native.Mathlib.Omega.{arith}
use lib.Dec.{leb}
use lib.ListN.{length, take, drop}
use lib.Seq.{length-take-le}
use borrow.Author.Tests.{le-leb, lt-leb}
use Rattle.lists.proofs.Tests.{by-test, clash}
use Rattle.patterns.specs.declared.Refusal.{Refusal}
use Rattle.patterns.specs.declared.Refusal.TheVariants.{Room}
use Rattle.patterns.specs.Table.{image}
use Rattle.patterns.specs.Census.{Row, height}
use Rattle.patterns.specs.Reading.{Result, done, fault}
use Rattle.patterns.specs.Entry.{gives, outcome, answered, checked_table, census_of, census_answered, CensusReplied}
use Rattle.patterns.specs.Replies.{length_is, refused, census_is, census_refused, number_of}
use Rattle.census.specs.declared.columns.Rows.{Rows}
use Rattle.census.specs.Rows.{rows_in, RowsOf}
use Rattle.map_theory.proofs.SideBySide.{rows-length}
use Rattle.census_entries.specs.Decisions.{first_rows, RowsDecided, Refuses}

-- the census of a table, and of what is none
pub census-done : (f : List ℕ) {rows : Rows} → checked_table f ≡ done f → RowsOf f rows → census_of f ≡ done (rows_in rows)
unfolding census_of
census-done f e w = rw e (ap done (sym w.rows_are))

pub census-fault : (f : List ℕ) {cause : Refusal} → checked_table f ≡ fault cause → census_of f ≡ fault cause
unfolding census_of
census-fault f e = rw e

-- a bad table
pub refused-table : (f : List ℕ) {cause : Refusal} → checked_table f ≡ fault cause → (places : ℕ) → Refuses f places cause
refused-table f e places = record { nothing = λ before l. rw (census-fault f e); reply = λ before l. rw (census-fault f e) }

module _ (f : List ℕ) (e : checked_table f ≡ done f) (rows : Rows) (w : RowsOf f rows) (lengths-all : length rows.lengths ≡ 19)
    (Counts-all : length rows.counts ≡ 19) (places : ℕ) where
  rows-many : length (rows_in rows) ≡ rows.rows
  rows-many =
      let a = take rows.rows rows.lengths in
      let b = take rows.rows rows.counts in
      let l = length-take-le rows.rows rows.lengths (omega (arith, w.few)) in
      rows-length a b (l ∙ sym (length-take-le rows.rows rows.counts (omega (arith, w.few)))) ∙ l

  -- the list is too short
  pub chosen-short : places < rows.rows → Refuses f places Room
  chosen-short h =
      let test : (before : List Row) → length before ≡ places → leb (length (rows_in rows)) (length before) ≡ false =
      λ before l. lt-leb (length (rows_in rows)) (length before) (omega (arith, rows-many)) in
      record {
        nothing = λ before l. rw (census-done f e w) (rw (test before l));
        reply = λ before l. rw (census-done f e w) (rw (test before l));
      }

  -- all rows are written
  pub chosen-fits : rows.rows ≤ places → RowsDecided f places rows
  chosen-fits h =
      let test : (before : List Row) → length before ≡ places → leb (length (rows_in rows)) (length before) ≡ true =
      λ before l. le-leb (length (rows_in rows)) (length before) (omega (arith, rows-many)) in
      record {
        few = w.few;
        fits = h;
        output = λ before l. rw (census-done f e w) (rw (test before l) (ap (λ j. rows_in rows ++ drop j before) (sym rows-many)));
        reply = λ before l. rw (census-done f e w) (rw (test before l) (ap length_is (sym rows-many)));
      }

-- the whole answer beside the number of rows, or the same refusal
module _ (f : List ℕ) (before : List Row) where
  pub refusal-answered : (o : Result (List Row)) {cause : ℕ} → refused cause ≡ answered (outcome o gives) before → census_refused cause ≡ census_answered f o before
  refusal-answered (done rows) {cause} e =
      by-test (leb (length rows) (length before))
      (λ t. let k : refused cause ≡ length_is (length rows) = e ∙ rw t in clash cc)
      (λ t. let k : refused cause ≡ refused (number_of Room) = e ∙ rw t in let z : cause ≡ number_of Room = cc in rw t (ap census_refused z))
  refusal-answered (fault c) {cause} e = let z : cause ≡ number_of c = cc in ap census_refused z

  pub number-answered : (o : Result (List Row)) {n : ℕ} → length_is n ≡ answered (outcome o gives) before
      → census_is n (height (length f) (image f)) ≡ census_answered f o before
  number-answered (done rows) {n} e =
      by-test (leb (length rows) (length before))
      (λ t.
      let k : length_is n ≡ length_is (length rows) = e ∙ rw t in
      let z : n ≡ length rows = cc in
      rw t (ap (λ m. census_is m (height (length f) (image f))) z))
      (λ t. let k : length_is n ≡ refused (number_of Room) = e ∙ rw t in clash cc)
  number-answered (fault c) e = clash cc

-- what was decided, and done, is the reply
module _ {f : List ℕ} {places : ℕ} (before : List Row) (l : length before ≡ places) where
  pub refusal-replied : {cause : Refusal} → Refuses f places cause → CensusReplied f before (census_refused (number_of cause)) before
  refusal-replied r = record { reply = refusal-answered f before (census_of f) (r.reply before l); output = r.nothing before l }

  pub rows-replied : {rows : Rows} {h : ℕ} {after : List Row} → RowsDecided f places rows → h ≡ height (length f) (image f)
      → after ≡ first_rows rows rows.rows ++ drop rows.rows before → CensusReplied f before (census_is rows.rows h) after
  rows-replied d p e =
      record { reply = rw p (number-answered f before (census_of f) (d.reply before l)); output = e ∙ d.output before l }
