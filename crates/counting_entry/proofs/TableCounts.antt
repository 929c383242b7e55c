-- How many tables have a system in memory.
use mathlib.Core.Path.{◌≡◌, refl, ap, ap₂, sym, ◌∙◌}
use mathlib.Core.List.{List}
use Prim.Native.Nat.{ℕ, ◌/◌, ◌≤◌, ◌<◌}
use native.Mathlib.Omega.{arith}
use lib.ListN.{length}
use Rattle.patterns.specs.declared.Refusal.{Refusal}
use Rattle.patterns.specs.System.{System, weight, canonical}
use Rattle.patterns.specs.Reading.{done, fault, accepted}
use Rattle.patterns.specs.Replies.{Answer, length_is, refused, number_of}
use Rattle.patterns.specs.Entry.{answer}
use Rattle.patterns.specs.TableCount.{tables_with, tables_counted, table_count}
use Rattle.patterns.proofs.TableCountExamples.{fifteen-counted, sixteen-uncounted}
use Rattle.memory.specs.Memory.{Holds}
use Rattle.memory.specs.HeldCode.{HeldCanonical}
use Rattle.memory.proofs.Parts.{held-points, held-unique}
use Rattle.counting_theory.specs.Symmetries.{factorial, symmetries}
use Rattle.counting_theory.proofs.CountedTables.{symmetries-positive, tables-quotient}

module _ {sizes trees : List ℕ} (w : HeldCanonical sizes trees) where
  -- the system has too many points
  pub not-counted : 15 < length trees → (S : System) → Holds S sizes trees → refused 12 ≡ answer (tables_counted S) length_is
  not-counted k S h = sym (ap (λ r. answer r length_is) (sixteen-uncounted S (omega (arith, held-points h))))

  module _ {orders own : ℕ} (all : orders ≡ factorial (length trees)) (counted : (S : System) → Holds S sizes trees → own ≡ symmetries S) where
    -- a number that can be divided by
    pub divisor : 0 < own
    divisor = rw (counted w.system w.holds) (symmetries-positive (weight w.system) w.system w.canonical_is refl)

    pub tables-told : length trees ≤ 15 → (S : System) → Holds S sizes trees → length_is (orders / own) ≡ answer (tables_counted S) length_is
    tables-told k S h =
        let canonical_is = ap canonical (held-unique h w.holds) ∙ w.canonical_is in
        let quotient : orders / own ≡ tables_with (weight S) S =
        ap₂ ◌/◌ (all ∙ ap factorial (held-points h)) (counted S h) ∙ sym (tables-quotient (weight S) S canonical_is refl) in
        ap length_is quotient ∙ sym (ap (λ r. answer r length_is) (fifteen-counted S (omega (arith, held-points h))))

-- the reply for a code
module _ (b : List ℕ) where
  pub code-fault : (c : Refusal) → accepted b ≡ fault c → refused (number_of c) ≡ answer (table_count b) length_is
  unfolding table_count
  code-fault c e = rw e

  pub code-counted : (S : System) → accepted b ≡ done S → {a : Answer} → a ≡ answer (tables_counted S) length_is → a ≡ answer (table_count b) length_is
  unfolding table_count
  code-counted S e p = rw e p
