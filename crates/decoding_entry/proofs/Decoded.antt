-- What the reply of "map of a code" says to an entry that goes on with the map, which it had written into 200 places.
use Rattle.std.specs.Prelude.{Result as Reply, Ok, Err}
use mathlib.Core.Path.{◌≡◌, refl, ap, sym, ◌∙◌, subst}
use mathlib.Core.Bool.{true}
use mathlib.Core.List.{List}
use Prim.Native.Nat.{ℕ, ◌≤◌}
use native.Mathlib.Omega.{arith}
use lib.ListN.{length, take}
use borrow.Author.Tests.{le-leb}
use Rattle.lists.proofs.Tests.{clash}
use Rattle.patterns.specs.declared.Refusal.{Refusal}
use Rattle.patterns.specs.System.{System, weight}
use Rattle.patterns.specs.Table.{is_table}
use Rattle.patterns.specs.MapOf.{map_of}
use Rattle.patterns.specs.Reading.{Result, done, fault, accepted}
use Rattle.patterns.specs.Replies.{Answer, length_is, refused, number_of, answer_of}
use Rattle.patterns.specs.Entry.{Outcome, gives, outcome, answered, Replied, map_of_code}
use Rattle.patterns.proofs.Outcomes.{result-written, outcome-refused}
use Rattle.form_theory.proofs.WrittenBack.{accepted-canonical}
use Rattle.map_theory.proofs.MapOf.{length-map_of, map_of-table}
use Rattle.tables.specs.Tables.{Table}

-- The bytes b were accepted, and the map of their system stands in the first n places.
pub record Decoded (b after : List ℕ) (n : ℕ) : Type 0 where
  pub system : System
  pub is : accepted b ≡ done system
  pub points : weight system ≡ n
  pub small : n ≤ 200
  pub map_is : take n after ≡ map_of system

module _ (b : List ℕ) {r : Reply ℕ Refusal} {before after : List ℕ} (p : Replied (map_of_code b) before (answer_of r) after) where
  -- the map was written
  pub map-decoded : {n : ℕ} → r ≡ Ok n → Decoded b after n
  unfolding map_of_code
  map-decoded {n} e = of (accepted b) refl (rw e at p)
    where
      of : (o : Result System) → accepted b ≡ o → Replied (outcome o (λ S. gives (map_of S))) before (length_is n) after → Decoded b after n
      of (done S) q h =
          let w = result-written (gives (map_of S)) h in
          let z = w.1 in
          let l : w.0 ≡ map_of S = cc in
          let points : weight S ≡ n = sym (w.2 ∙ ap length l ∙ length-map_of S) in
          record { system = S; is = q; points = points; small = omega (arith, (accepted-canonical b S q).1); map_is = w.3 ∙ l }
      of (fault c) q h = let y = h.reply in clash cc

  -- the code was refused, since 200 places hold every map: what goes on with the system is refused with that cause
  pub decoded-refused : length before ≡ 200 → {c : Refusal} → r ≡ Err c → (f : System → Outcome ℕ) (out : List ℕ)
      → Replied (outcome (accepted b) f) out (refused (number_of c)) out
  unfolding map_of_code
  decoded-refused room {c} e f out = of (accepted b) refl (rw e at p.reply)
    where
      of : (o : Result System) → accepted b ≡ o → refused (number_of c) ≡ answered (outcome o (λ S. gives (map_of S))) before
          → Replied (outcome (accepted b) f) out (refused (number_of c)) out
      of (done S) q h =
          let fits = le-leb (length (map_of S)) (length before) (omega (arith, length-map_of S, (accepted-canonical b S q).1)) in
          let y : refused (number_of c) ≡ length_is (length (map_of S)) = rw fits at h in
          clash cc
      of (fault d) q h = rw h (outcome-refused f out d q)

module _ {b after : List ℕ} {n : ℕ} (d : Decoded b after n) where
  pub decoded-table : is_table (take n after) ≡ true
  decoded-table = ap is_table d.map_is ∙ map_of-table d.system

  pub decoded-points : length (take n after) ≡ n
  decoded-points = ap length d.map_is ∙ length-map_of d.system ∙ d.points

  -- it is a table of at most 200 points
  pub decoded-checked : Table (take n after)
  decoded-checked = let few = d.small in record { table = decoded-table; small = omega (arith, decoded-points) }

  -- what is found of the table is what is found of the map of the code
  pub decoded-replied : (h : List ℕ → Outcome ℕ) {out out' : List ℕ} {a : Answer} → Replied (h (take n after)) out a out'
      → Replied (outcome (accepted b) (λ S. h (map_of S))) out a out'
  decoded-replied h {out} {out'} {a} q = rw d.is (subst (λ f. Replied (h f) out a out') d.map_is q)
