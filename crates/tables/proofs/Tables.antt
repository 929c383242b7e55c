-- Checking a table.
use Rattle.std.specs.Prelude.{Result as Reply, Err}
use mathlib.Core.Path.{◌≡◌, refl, sym, ◌∙◌}
use mathlib.Core.Bool.{true, false}
use mathlib.Core.List.{List, [], ◌∷◌}
use Prim.Native.Nat.{ℕ, zero, suc, ◌≤◌, ◌<◌}
use native.Mathlib.Omega.{arith}
use lib.Dec.{ltb}
use lib.ListN.{length, get_or}
use borrow.Author.Tests.{le-ltb, lt-ltb, ltb-true, ltb-false}
use Rattle.lists.specs.Select.{each}
use Rattle.lists.proofs.Tests.{by-test, clash, is_false, each-head, each_tail}
use Rattle.patterns.specs.declared.Refusal.{Refusal}
use Rattle.patterns.specs.declared.Refusal.TheVariants.{Count, Image}
use Rattle.patterns.specs.Table.{is_table}
use Rattle.patterns.specs.Reading.{Result, done, fault}
use Rattle.patterns.specs.Entry.{checked_table}
use Rattle.tables.specs.declared.Table.{Table as TheTable}
use Rattle.tables.specs.Tables.{CheckedBy, Table}

-- each byte is one of n points
pub points-each : (n : ℕ) (f : List ℕ) → ((k : ℕ) → k < length f → get_or f k 0 < n) → each (λ y. ltb y n) f ≡ true
points-each n [] h = refl
points-each n (y ∷ f) h =
    let here : y < n = h 0 (omega arith) in
    rw (lt-ltb y n here) (points-each n f (λ k b. h (suc k) (omega arith)))

pub each-points : (n : ℕ) (f : List ℕ) → each (λ y. ltb y n) f ≡ true → (k : ℕ) → k < length f → get_or f k 0 < n
each-points n [] t k b = absurd (omega arith)
each-points n (y ∷ f) t zero b = ltb-true y n (each-head (λ z. ltb z n) y f t)
each-points n (y ∷ f) t (suc k) b = each-points n f (each_tail (λ z. ltb z n) y f t) k (omega arith)

module _ (f : List ℕ) where
  pub checked-large : 200 < length f → checked_table f ≡ fault Count
  unfolding checked_table
  checked-large h = rw (lt-ltb 200 (length f) h)

  -- a byte that is no point
  pub checked-bad : length f ≤ 200 → (((k : ℕ) → k < length f → get_or f k 0 < length f) → ⊥) → checked_table f ≡ fault Image
  unfolding checked_table
  checked-bad small h =
      let e : is_table f ≡ false = is_false (is_table f) (λ t. h (each-points (length f) f t)) in
      rw (le-ltb 200 (length f) small, e)

  -- none
  pub checked-passes : Table f → checked_table f ≡ done f
  unfolding checked_table
  checked-passes t = rw (le-ltb 200 (length f) t.small, t.table)

  -- a table that passes
  pub checked-table : checked_table f ≡ done f → Table f
  unfolding checked_table
  checked-table e =
      by-test (ltb 200 (length f))
      (λ large. let k : fault Count ≡ done f = sym (rw large) ∙ e in clash cc)
      (λ small.
      by-test (is_table f)
      (λ t. record { table = t; small = ltb-false 200 (length f) small })
      (λ t. let k : fault Image ≡ done f = sym (rw (small, t)) ∙ e in clash cc))

-- a refusal is told only where the checks find it
pub told-refused : (o : Result (List ℕ)) (f : List ℕ) {r : Reply TheTable Refusal} {c : Refusal} → CheckedBy o f r → r ≡ Err c → o ≡ fault c
told-refused o f k e = rw e at k
