-- What follows from the promises of the entries: the map of a code has that code; the isomorphism that is written is one; and two maps have the same
-- code exactly if "none" is not the reply.
use mathlib.Core.Path.{◌≡◌, refl, ap, sym, ◌∙◌, subst}
use mathlib.Core.Bool.{true}
use mathlib.Core.List.{List}
use Prim.Native.Nat.{ℕ, ◌≤◌}
use native.Mathlib.Omega.{arith}
use lib.Dec.{leb}
use lib.ListN.{length, take}
use Rattle.lists.proofs.Tests.{by-test, clash}
use Rattle.patterns.specs.declared.Refusal.{Refusal}
use Rattle.patterns.specs.System.{System, weight}
use Rattle.patterns.specs.Written.{written}
use Rattle.patterns.specs.MapOf.{map_of}
use Rattle.patterns.specs.Table.{is_table, system_of_table}
use Rattle.patterns.specs.Isomorphism.{Isomorphism}
use Rattle.patterns.specs.Reading.{Result, done, fault, accepted}
use Rattle.patterns.specs.Replies.{Answer, length_is, lacking, refused}
use Rattle.patterns.specs.Entry.{Outcome, gives, fails, outcome, answered, Replied, checked_table, code_of_map, map_of_code, IsomorphismFound, IsomorphismReplied, first_refused, second_refused, found, lengths_differ, not_found}
use Rattle.patterns.proofs.Outcomes.{result-written, result-fills, code_gives}
use Rattle.patterns.proofs.IsomorphismExamples.{written-is-renaming}
use Rattle.form_theory.proofs.Bounds.{all_below}
use Rattle.form_theory.proofs.WrittenBack.{accepted-is, written-equal}
use Rattle.map_theory.proofs.MapOf.{length-map_of, map_of-table}
use Rattle.map_theory.proofs.Theorems.{table-canonical, table-weight, system-of-map, isomorphic-same-system, same-system-isomorphic}
use Rattle.tables.specs.Tables.{Table}
use Rattle.tables.proofs.Tables.{checked-table}

-- The map that "map of a code" writes has that code.
pub map-has-code : (b : List ℕ) {before after : List ℕ} {n : ℕ} → all_below 256 b ≡ true → Replied (map_of_code b) before (length_is n) after
    → code_of_map (take n after) ≡ gives b
unfolding map_of_code
map-has-code b {before} {after} {n} h p = of (accepted b) refl p
  where
    of : (o : Result System) → accepted b ≡ o → Replied (outcome o (λ S. gives (map_of S))) before (length_is n) after → code_of_map (take n after) ≡ gives b
    of (done S) e q =
        let r = result-written (gives (map_of S)) q in
        let t : take n after ≡ map_of S = let z = r.1 in r.3 ∙ (let y : r.0 ≡ map_of S = cc in y) in
        let c = accepted-is b S h e in
        ap code_of_map t
        ∙ code_gives (map_of S) (omega (arith, length-map_of S, c.2)) (map_of-table S)
        ∙ ap (λ R. gives (written R)) (system-of-map S c.1)
        ∙ ap gives (sym c.0)
    of (fault c) e q = let z = result-written (fails c) q in (let y = z.1 in clash cc)

-- so the code of a map is what "code of a map" writes
pub code-fills : (f : List ℕ) {before after : List ℕ} {a : Answer} → length f ≤ 200 → is_table f ≡ true → Replied (code_of_map f) before a after
    → length (written (system_of_table f)) ≤ length before
    → (a ≡ length_is (length (written (system_of_table f)))) × (take (length (written (system_of_table f))) after ≡ written (system_of_table f))
code-fills f h t p room = result-fills (written (system_of_table f)) (rw (code_gives f h t) at p) room

-- The table that "isomorphism" writes is an isomorphism from the first map to the second.
pub isomorphism-written : {f g before after : List ℕ} {n : ℕ} → IsomorphismReplied f g before (length_is n) after
    → (n ≡ length f) × Isomorphism n f g (take n after)
isomorphism-written {f} {g} {before} {after} {n} p =
    let r = result-written p.found p.replied in
    let i : Isomorphism (length f) f g r.0 = written-is-renaming f g r.0 (rw r.1 at p.is_found) in
    let e : n ≡ length f = r.2 ∙ i.points in
    (e, subst (λ k. Isomorphism k f g (take n after)) (sym e) (subst (Isomorphism (length f) f g) (sym r.3) i))

module _ (f g : List ℕ) (c : checked_table f ≡ done f) (d : checked_table g ≡ done g) where
  first-table : Table f
  first-table = checked-table f c

  second-table : Table g
  second-table = checked-table g d

  first-fails : {r : Refusal} → checked_table f ≡ fault r → ⊥
  first-fails e = let y = sym c ∙ e in clash cc

  second-fails : {r : Refusal} → checked_table g ≡ fault r → ⊥
  second-fails e = let y = sym d ∙ e in clash cc

  first-weight : weight (system_of_table f) ≡ length f
  first-weight = table-weight (length f) f refl first-table.table

  second-weight : weight (system_of_table g) ≡ length g
  second-weight = table-weight (length g) g refl second-table.table

  -- two maps with the same code have the same system, and equally many points
  pub same-systems : code_of_map f ≡ code_of_map g → system_of_table f ≡ system_of_table g
  same-systems e =
      let y = sym (code_gives f first-table.small first-table.table) ∙ e ∙ code_gives g second-table.small second-table.table in
      let w : written (system_of_table f) ≡ written (system_of_table g) = cc in
      written-equal (system_of_table f) (system_of_table g) (table-canonical (length f) f refl first-table.table)
      (table-canonical (length g) g refl second-table.table)
      (omega (arith, first-weight, first-table.small)) (omega (arith, second-weight, second-table.small)) w

  pub same_points : code_of_map f ≡ code_of_map g → length f ≡ length g
  same_points e = sym first-weight ∙ ap weight (same-systems e) ∙ second-weight

  same_codes : system_of_table f ≡ system_of_table g → code_of_map f ≡ code_of_map g
  same_codes e =
      code_gives f first-table.small first-table.table
      ∙ ap (λ S. gives (written S)) e
      ∙ sym (code_gives g second-table.small second-table.table)

  -- Two maps with the same code: the reply is not "none".
  pub same-code-found : {before after : List ℕ} → code_of_map f ≡ code_of_map g → IsomorphismReplied f g before lacking after → ⊥
  same-code-found {before} {after} e p = of p.found p.is_found p.replied.reply
    where
      of : (o : Outcome ℕ) → IsomorphismFound f g o → lacking ≡ answered o before → ⊥
      of o (first_refused q) k = first-fails q
      of o (second_refused q u) k = second-fails u
      of o (found {r = r} q u l i) k =
          by-test (leb (length r) (length before))
          (λ t. let y : lacking ≡ length_is (length r) = k ∙ rw t in clash cc)
          (λ t. let y : lacking ≡ refused 8 = k ∙ rw t in clash cc)
      of o (lengths_differ q u h) k = h (same_points e)
      of o (not_found q u l h) k =
          let i = same-system-isomorphic (length f) f g refl first-table.table (sym l) second-table.table (same-systems e) in
          h i.0 i.1

  -- Two maps with different codes: the reply is "none".
  pub other-code-none : {before after : List ℕ} {a : Answer} → (code_of_map f ≡ code_of_map g → ⊥) → IsomorphismReplied f g before a after → a ≡ lacking
  other-code-none {before} {after} {a} h p = of p.found p.is_found p.replied.reply
    where
      of : (o : Outcome ℕ) → IsomorphismFound f g o → a ≡ answered o before → a ≡ lacking
      of o (first_refused q) k = absurd (first-fails q)
      of o (second_refused q u) k = absurd (second-fails u)
      of o (found {r = r} q u l i) k = absurd (h (same_codes (isomorphic-same-system (length f) f g r refl first-table.table (sym l) i)))
      of o (lengths_differ q u n) k = k
      of o (not_found q u l n) k = k
