-- A table of at most 120 points: its check, and the lengths of its cycles.
use mathlib.Core.Path.{◌≡◌, refl, sym, ◌∙◌}
use mathlib.Core.Bool.{true}
use mathlib.Core.List.{List}
use Prim.Native.Nat.{ℕ, ◌≤◌, ◌<◌}
use native.Mathlib.Omega.{arith}
use lib.ListN.{length}
use borrow.Author.Tests.{le-ltb}
use Rattle.std.specs.Prelude.{Result as Reply, Ok, Err}
use Rattle.patterns.specs.declared.Refusal.{Refusal}
use Rattle.patterns.specs.Table.{is_table, image}
use Rattle.patterns.specs.Census.{occurring}
use Rattle.patterns.specs.Reading.{fault}
use Rattle.patterns.specs.Entry.{checked_table}
use Rattle.patterns.specs.Period.{period, checked_small}
use Rattle.map_theory.proofs.Isomorphisms.{table_below}
use Rattle.map_theory.proofs.Occurring.{occurring-positive, occurring-total}
use Rattle.period_theory.specs.Multiples.{lcm_from}
use Rattle.period_theory.proofs.TriedPeriods.{period-occurring}
use Rattle.multiples.specs.FittingMultiples.{LcmsAsked}
use Rattle.multiples.proofs.LcmSteps.{few-asked}
use Rattle.tables.specs.declared.Table.{Table}
use Rattle.tables.specs.Tables.{CheckedBy, Checked}
use Rattle.tables.proofs.Tables.{told-refused}
use Rattle.period_entry.specs.SmallTables.{SmallChecked}

-- up to 120 points the checks are those of every table
pub checked-same : (f : List ℕ) → length f ≤ 120 → checked_table f ≡ checked_small f
unfolding checked_table checked_small
checked-same f h = rw (le-ltb 200 (length f) (omega arith), le-ltb 120 (length f) h)

pub small-checked : (f : List ℕ) (r : Reply Table Refusal) → length f ≤ 120 → Checked f r → SmallChecked f r
small-checked f (Ok t) h e = (e.0, sym (checked-same f h) ∙ e.1, h)
small-checked f (Err c) h e = sym (checked-same f h) ∙ e

-- What the check answers is told by its own outcome, and a refusal only where this is one.
small-told : (f : List ℕ) (r : Reply Table Refusal) → SmallChecked f r → CheckedBy (checked_small f) f r
small-told f (Ok t) k = (k.0, k.1)
small-told f (Err c) k = k

pub small-refused : (f : List ℕ) {r : Reply Table Refusal} {c : Refusal} → SmallChecked f r → r ≡ Err c → checked_small f ≡ fault c
small-refused f {r} k e = told-refused (checked_small f) f (small-told f r k) e

-- the lengths that occur have a least common multiple that fits, and it is the period
module _ (f : List ℕ) (t : is_table f ≡ true) (small : length f ≤ 120) where
  inside : (x : ℕ) → x < length f → image f x < length f
  inside = table_below (length f) f refl t

  pub lengths-asked : LcmsAsked (occurring (length f) (image f))
  lengths-asked =
      few-asked (occurring (length f) (image f)) (occurring-positive (length f) (image f))
      (omega (arith, occurring-total (length f) (image f) inside))

  pub lengths-period : lcm_from 1 (occurring (length f) (image f)) ≡ period (length f) (image f)
  lengths-period = sym (period-occurring (length f) (image f) inside)
