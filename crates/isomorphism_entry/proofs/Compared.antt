-- Two tables with their systems and labels: an isomorphism where the systems are equal, and none where they differ.
use mathlib.Core.Path.{◌≡◌, refl, ap, sym, ◌∙◌, subst}
use mathlib.Core.Bool.{true}
use mathlib.Core.List.{List, map}
use Prim.Native.Nat.{ℕ, ◌<◌, ◌≤◌}
use native.Mathlib.Omega.{arith}
use lib.ListN.{length}
use borrow.Author.Tests.{le-ltb}
use Rattle.lists.specs.Select.{gather}
use Rattle.lists.proofs.Members.{nodup_range}
use Rattle.lists.proofs.Permute.{perm-sym}
use Rattle.lists.proofs.Places.{nodup-index}
use Rattle.lists.proofs.Gathering.{perm-nodup}
use Rattle.patterns.specs.declared.Refusal.{Refusal}
use Rattle.patterns.specs.Component.{points, flat}
use Rattle.patterns.specs.System.{weight}
use Rattle.patterns.specs.Table.{image, is_table, system_of_table}
use Rattle.patterns.specs.MapOf.{map_of}
use Rattle.patterns.specs.Isomorphism.{Isomorphism}
use Rattle.patterns.specs.Reading.{done, fault}
use Rattle.patterns.specs.Replies.{Answer, lacking, refused, number_of}
use Rattle.patterns.specs.Entry.{gives, lacks, fails, checked_table, IsomorphismReplied, first_refused, second_refused, found, lengths_differ, not_found}
use Rattle.memory.proofs.Parts.{trees-unique}
use Rattle.map_theory.proofs.MapOf.{length-map_of, map_of-table}
use Rattle.map_theory.proofs.Isomorphisms.{table_below, isomorphism-perm, isomorphism-below, isomorphism-through}
use Rattle.map_theory.proofs.Theorems.{table-weight, isomorphic-same-system}
use Rattle.tables.specs.Tables.{Table}
use Rattle.coding.specs.declared.labelled.LabelledSystem.{LabelledSystem}
use Rattle.coding.specs.Systems.{CodedAs, sizes_of, trees_of, labels_of}
use Rattle.matching.specs.Sends.{Matched, SendsPut}
use Rattle.isomorphism_entry.specs.SameLength.{SameLength}
use Rattle.coding.proofs.CodedSizes.{sizes-front}

-- a table passes the checks
pub table-passes : {f : List ℕ} → Table f → checked_table f ≡ done f
unfolding checked_table
table-passes {f} t = rw (le-ltb 200 (length f) t.small, t.table)

pub same-length : {f g : List ℕ} → is_table f ≡ true → length f ≤ 200 → is_table g ≡ true → length g ≤ 200 → length g ≡ length f → SameLength f g
same-length t a u b e = record { first = record { table = t; small = a }; second = record { table = u; small = b }; same = e }

-- Answers before any isomorphism is looked for: buffers are kept.
module _ (f g before : List ℕ) where
  pub first-bad : (c : Refusal) → checked_table f ≡ fault c → IsomorphismReplied f g before (refused (number_of c)) before
  first-bad c e = record { found = fails c; is_found = first_refused e; replied = record { reply = refl; output = refl } }

  pub second-bad : Table f → (c : Refusal) → checked_table g ≡ fault c → IsomorphismReplied f g before (refused (number_of c)) before
  second-bad t c e = record { found = fails c; is_found = second_refused (table-passes t) e; replied = record { reply = refl; output = refl } }

  pub lengths-bad : Table f → Table g → (length f ≡ length g → ⊥) → IsomorphismReplied f g before lacking before
  lengths-bad t u h = record { found = lacks; is_found = lengths_differ (table-passes t) (table-passes u) h; replied = record { reply = refl; output = refl } }

-- the labels of a table's system are all different
labels-different : {n : ℕ} {m f a : List ℕ} → Isomorphism n m f a → (i j : ℕ) → i < n → j < n → image a i ≡ image a j → i ≡ j
labels-different {n} {m} {f} {a} p i j h k e =
    nodup-index 0 i j (perm-nodup (perm-sym (isomorphism-perm p)) (nodup_range 0 n)) (omega (arith, p.points)) (omega (arith, p.points)) e

module _ {f g : List ℕ} (t : SameLength f g) (a b : LabelledSystem) (p : CodedAs f a) (q : CodedAs g b) where
  abbrev SameParts : Type 0
  SameParts = (sizes_of a ≡ sizes_of b) × (trees_of a ≡ trees_of b)

  same-systems : SameParts → system_of_table f ≡ system_of_table g
  same-systems e =
      trees-unique (system_of_table f) (system_of_table g)
      (sym (sizes-front a p) ∙ e.0 ∙ sizes-front b q)
      (sym p.written.trees_are ∙ e.1 ∙ q.written.trees_are)

  systems-same : system_of_table f ≡ system_of_table g → SameParts
  systems-same e = (
    sizes-front a p ∙ ap (map points) e ∙ sym (sizes-front b q),
    p.written.trees_are ∙ ap (gather flat) e ∙ sym q.written.trees_are,
  )

  -- they are not: there is no isomorphism
  pub systems-differ : (SameParts → ⊥) → (before : List ℕ) → IsomorphismReplied f g before lacking before
  systems-differ e before =
      record {
        found = lacks;
        is_found = not_found (table-passes t.first) (table-passes t.second) (sym t.same)
            (λ r i. e (systems-same (isomorphic-same-system (length f) f g r refl t.first.table t.same i)));
        replied = record { reply = refl; output = refl };
      }

  -- the labels of g, as many as those of f
  others-are : Isomorphism (length f) (map_of (system_of_table g)) g (labels_of b)
  others-are = subst (λ n. Isomorphism n (map_of (system_of_table g)) g (labels_of b)) t.same q.written.labels_are

  pub labels-matched : Matched (labels_of a) (labels_of b)
  labels-matched =
      let l : length (labels_of a) ≡ length f = p.written.labels_are.points in
      record {
        beside = others-are.points ∙ sym l;
        small = omega (arith, t.first.small);
        inside = λ j h. let k = isomorphism-below p.written.labels_are j (omega arith) in omega arith;
        different = λ i j h k e. labels-different p.written.labels_are i j (omega arith) (omega arith) e;
      }

  -- they are: the table that was put is an isomorphism
  pub systems-equal : SameParts → {before after : List ℕ} {x : Answer} → SendsPut (labels_of a) (labels_of b) before x after
      → IsomorphismReplied f g before x after
  systems-equal e {before} {after} {x} w =
      let n = length f in
      let S = system_of_table f in
      let heavy : weight S ≡ n = table-weight n f refl t.first.table in
      let l : length (labels_of a) ≡ n = p.written.labels_are.points in
      let beside : Isomorphism n (map_of S) g (labels_of b) = subst (λ R. Isomorphism n (map_of R) g (labels_of b)) (sym (same-systems e)) others-are in
      record {
        found = gives w.table;
        is_found =
            found (table-passes t.first) (table-passes t.second) (sym t.same)
            (isomorphism-through (table_below n (map_of S) (length-map_of S ∙ heavy) (map_of-table S)) p.written.labels_are beside (w.is.places ∙ l)
            (λ j h. w.is.sends j (omega arith)));
        replied = w.replied;
      }
