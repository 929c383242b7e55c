-- What follows from the promise of the entry that tells the period of a map, as document 02, paper 8, asks for it: the number is the least of at least 1 that brings
-- each point back once every point is on a cycle, and the least common multiple of the cycle lengths; the refusals come in their order.
use mathlib.Core.Path.{◌≡◌, refl, ap, sym, ◌∙◌}
use mathlib.Core.Bool.{true, false}
use mathlib.Core.List.{List, map}
use Prim.Native.Nat.{ℕ, ◌≤◌, ◌<◌}
use native.Mathlib.Omega.{arith}
use lib.Dec.{ltb}
use lib.ListN.{length, take}
use borrow.Author.Tests.{ltb-true, ltb-false}
use Rattle.lists.proofs.Tests.{by-test, clash}
use Rattle.patterns.specs.System.{System}
use Rattle.patterns.specs.Table.{image, is_table, system_of, system_of_table}
use Rattle.patterns.specs.Census.{Row, cycle_lengths}
use Rattle.patterns.specs.Reading.{done, accepted}
use Rattle.patterns.specs.Replies.{Answer, length_is, refused, census_is}
use Rattle.patterns.specs.Entry.{answer, checked_table, code_of_map, CensusReplied}
use Rattle.patterns.specs.Period.{period, period_of}
use Rattle.tables.proofs.SmallTables.{small-passes, small-image, small-large, small_count, small_cases}
use Rattle.map_theory.proofs.Isomorphisms.{table_below}
use Rattle.map_theory.proofs.Occurring.{row-lengths}
use Rattle.tables.proofs.Tables.{checked-table}
use Rattle.period_theory.specs.Multiples.{lcm_from}
use Rattle.period_theory.specs.LeastPeriod.{Settled, BringsBackAfter, LeastPeriod}
use Rattle.period_theory.proofs.CyclePeriods.{back-further, further-back, period-unique}
use Rattle.period_theory.proofs.TriedPeriods.{period-is-lcm, period-least, period-occurring}
use Rattle.period_theory.proofs.CodePeriods.{code-period}
use Rattle.period_theory.proofs.LandauBound.{period-below}
use Rattle.engine.proofs.Theorems.{same-systems, same_points}
use Rattle.engine.proofs.CensusTheorems.{census-written}
use Rattle.engine.proofs.WrittenCodes.{Wrote, wrote-gives, given-system}

-- the entry's reply to the table f
abbrev pub PeriodAnswer : List ℕ → Answer
PeriodAnswer f = answer (period_of f) length_is

-- Every table by its checks: 1, then 13, then 2, then the number.
module _ (f : List ℕ) where
  pub count-reply : 200 < length f → PeriodAnswer f ≡ refused 1
  unfolding period_of
  count-reply h = rw (small_count f h)

  pub many-reply : 120 < length f → length f ≤ 200 → PeriodAnswer f ≡ refused 13
  unfolding period_of
  many-reply h k = rw (small-large f h k)

  pub image-reply : length f ≤ 120 → is_table f ≡ false → PeriodAnswer f ≡ refused 2
  unfolding period_of
  image-reply h t = rw (small-image f h t)

  pub period-reply : length f ≤ 120 → is_table f ≡ true → PeriodAnswer f ≡ length_is (period (length f) (image f))
  unfolding period_of
  period-reply h t = rw (small-passes f h t)

-- A number is told only of a table of at most 120 points, and it is the period.
pub record PeriodOf (f : List ℕ) (p : ℕ) : Type 0 where
  pub few : length f ≤ 120
  pub table : is_table f ≡ true
  pub is : p ≡ period (length f) (image f)

-- a refusal has its reason, and no other that comes before
pub data PeriodRefusal (f : List ℕ) : ℕ → Type 0 where
  count : 200 < length f → PeriodRefusal f 1
  too_many : 120 < length f → length f ≤ 200 → PeriodRefusal f 13
  no_table : length f ≤ 120 → is_table f ≡ false → PeriodRefusal f 2

-- every reply is one of the four
by-reply : {P : Type 0} (f : List ℕ) → ((c : ℕ) → PeriodRefusal f c → PeriodAnswer f ≡ refused c → P) → ((p : ℕ) → PeriodOf f p → PeriodAnswer f ≡ length_is p → P) → P
by-reply f refuse tell =
    small_cases f
    (λ h e. refuse 1 (count h) (count-reply f h))
    (λ h k e. refuse 13 (too_many h k) (many-reply f h k))
    (λ h t e. refuse 2 (no_table h t) (image-reply f h t))
    (λ h t e. tell (period (length f) (image f)) (record { few = h; table = t; is = refl }) (period-reply f h t))

pub period_told : (f : List ℕ) {p : ℕ} → PeriodAnswer f ≡ length_is p → PeriodOf f p
period_told f {p} e =
    by-reply f
    (λ c r q. let z : refused c ≡ length_is p = sym q ∙ e in clash cc)
    (λ k r q. let z : length_is k ≡ length_is p = sym q ∙ e in let y : p ≡ k = cc in rw y r)

pub period-refusal : (f : List ℕ) {c : ℕ} → PeriodAnswer f ≡ refused c → PeriodRefusal f c
period-refusal f {c} e =
    by-reply f
    (λ k r q. let z : refused k ≡ refused c = sym q ∙ e in let y : c ≡ k = cc in rw y r)
    (λ p r q. let z : length_is p ≡ refused c = sym q ∙ e in clash cc)

-- What the number is.
module _ (f : List ℕ) {p : ℕ} (e : PeriodAnswer f ≡ length_is p) where
  told : PeriodOf f p
  told = period_told f e

  inside : (x : ℕ) → x < length f → image f x < length f
  inside = table_below (length f) f refl told.table

  -- the least of at least 1 that brings every point of a cycle back,
  pub told-least : LeastPeriod (length f) (image f) p
  told-least = rw told.is (period-least (length f) (image f) inside)

  -- the least that brings each point back "once every point is on a cycle", whenever that is; it is after `length f` steps at the latest, `settled-from`
  pub told-further : (k : ℕ) → Settled (length f) (image f) k
      → BringsBackAfter (length f) (image f) k p × ((q : ℕ) → 1 ≤ q → BringsBackAfter (length f) (image f) k q → p ≤ q)
  told-further k s = (
    back-further (length f) (image f) inside k p s told-least.is_back,
    λ q h b. told-least.least q h (further-back (length f) (image f) inside k q b),
  )

  -- and the least common multiple of the cycle lengths
  pub told-lcm : p ≡ lcm_from 1 (cycle_lengths (length f) (image f))
  told-lcm = told.is ∙ period-is-lcm (length f) (image f) inside

  -- 64 bits hold it
  pub told_below : p ≤ 5354228880
  told_below = rw told.is (period-below (length f) (image f) inside told.few)

  -- of the lengths that a census of the same map wrote it is the least common multiple
  pub told-by-census : {before after : List Row} {k h : ℕ} → CensusReplied f before (census_is k h) after → p ≡ lcm_from 1 (map (λ r. r.cycle_length) (take k after))
  told-by-census c =
      told.is ∙ period-occurring (length f) (image f) inside ∙ ap (lcm_from 1) (sym (row-lengths (length f) (image f)) ∙ ap (map (λ (r : Row). r.cycle_length)) (sym (census-written c)))

  -- of the numbers of trees of the components of the code too
  pub told-by-code : (b : List ℕ) (S : System) → Wrote (code_of_map f) b → accepted b ≡ done S → p ≡ lcm_from 1 (map length S)
  unfolding system_of_table
  told-by-code b S w a =
      let same : S ≡ system_of (length f) (image f) = given-system f b S (wrote-gives (code_of_map f) w) a in
      told.is ∙ code-period (length f) (image f) inside ∙ ap (λ S. lcm_from 1 (map length S)) (sym same)

-- The reply depends on the pattern alone: two maps with the same code get the same one.
pub same-code-same-period : {f g : List ℕ} → checked_table f ≡ done f → checked_table g ≡ done g → code_of_map f ≡ code_of_map g → PeriodAnswer f ≡ PeriodAnswer g
unfolding system_of_table
same-code-same-period {f} {g} a b e =
    let points = same_points f g a b e in
    let s = checked-table f a in
    let t = checked-table g b in
    by-test (ltb 120 (length f))
    (λ l.
    let h = ltb-true 120 (length f) l in
    many-reply f h s.small ∙ sym (many-reply g (omega arith) t.small))
    (λ l.
    let h = ltb-false 120 (length f) l in
    period-reply f h s.table
    ∙ ap length_is
    (code-period (length f) (image f) (table_below (length f) f refl s.table)
    ∙ ap (λ S. lcm_from 1 (map length S)) (same-systems f g a b e)
    ∙ sym (code-period (length g) (image g) (table_below (length g) g refl t.table)))
    ∙ sym (period-reply g (omega arith) t.table))

-- The number is told of every table of at most 120 points that has it.
pub least-told : (f : List ℕ) {p : ℕ} → length f ≤ 120 → is_table f ≡ true → LeastPeriod (length f) (image f) p → PeriodAnswer f ≡ length_is p
least-told f h t l = period-reply f h t ∙ ap length_is (period-unique (period-least (length f) (image f) (table_below (length f) f refl t)) l)
