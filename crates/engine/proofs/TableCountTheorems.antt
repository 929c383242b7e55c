-- What follows from the promise of the entry that counts the tables with a code, as document 02, paper 7, asks for it: the number is that of the tables for which "code of
-- a map" gives the code; added over the whole list the numbers make n to the power n; and each number times the isomorphisms of a map to itself is n!.
use mathlib.Core.Path.{◌≡◌, refl, ap, sym, ◌∙◌}
use mathlib.Core.Bool.{true}
use mathlib.Core.List.{List, map}
use Prim.Native.Nat.{ℕ, ◌*◌, ◌^◌, ◌≤◌, ◌<◌}
use native.Mathlib.Omega.{arith}
use lib.Dec.{ltb}
use lib.ListN.{length}
use borrow.Author.Tests.{ltb-true, ltb-false}
use Rattle.lists.specs.Select.{total}
use Rattle.lists.proofs.Tests.{◌∈◌, by-test, clash}
use Rattle.lists.proofs.Permute.{total-same, total-map}
use Rattle.patterns.specs.declared.Refusal.{Refusal}
use Rattle.std.specs.Prelude.{Result}
use Rattle.patterns.specs.System.{System, weight, codes}
use Rattle.patterns.specs.Written.{written}
use Rattle.patterns.specs.Table.{system_of_table}
use Rattle.patterns.specs.Isomorphism.{isomorphisms}
use Rattle.patterns.specs.Reading.{done, fault, accepted}
use Rattle.patterns.specs.Replies.{Answer, length_is, last, first_of_list, lacking, refused, number_of, quantity_answer}
use Rattle.patterns.specs.Entry.{gives, answer, code_of_map}
use Rattle.patterns.specs.TableCount.{tables_with, table_count}
use Rattle.patterns.proofs.Outcomes.{by_result, code_gives}
use Rattle.patterns.proofs.TableCountExamples.{fifteen-counted, sixteen-uncounted}
use Rattle.system_theory.proofs.Codes.{codes-sound}
use Rattle.form_theory.proofs.Bounds.{all_below}
use Rattle.form_theory.proofs.WrittenBack.{written_back, written-equal, accepted-is}
use Rattle.map_theory.proofs.Theorems.{table-canonical, table-weight}
use Rattle.counting_theory.specs.Symmetries.{factorial}
use Rattle.counting_theory.proofs.Exactly.{Exactly, exactly-same}
use Rattle.counting_theory.proofs.CountedTables.{exactly-tables, tables-of-codes, tables-symmetries}
use Rattle.counting_theory.proofs.Automorphisms.{automorphisms-counted}
use Rattle.engine.proofs.WrittenCodes.{Wrote, wrote-gives, map-given, given-system}

-- the entry's reply to the bytes b
abbrev pub CountAnswer : List ℕ → Answer
CountAnswer b = answer (table_count b) length_is

-- the number that is told, and 0 where there is none
abbrev pub number_in : Answer → ℕ
number_in (length_is k) = k
number_in last = 0
number_in first_of_list = 0
number_in lacking = 0
number_in (refused c) = 0

-- Where the code is accepted.
module _ (b : List ℕ) (S : System) (e : accepted b ≡ done S) where
  pub counted-reply : weight S ≤ 15 → CountAnswer b ≡ length_is (tables_with (weight S) S)
  unfolding table_count
  counted-reply h = rw (e, fifteen-counted S h)

  pub large-reply : 15 < weight S → CountAnswer b ≡ refused 12
  unfolding table_count
  large-reply h = rw (e, sixteen-uncounted S h)

-- A number is told only of a code of at most 15 points, and it is the count of its tables.
pub record CountOf (b : List ℕ) (k : ℕ) : Type 0 where
  pub system : System
  pub is : accepted b ≡ done system
  pub few : weight system ≤ 15
  pub count : k ≡ tables_with (weight system) system

pub number-told : (b : List ℕ) {k : ℕ} → CountAnswer b ≡ length_is k → CountOf b k
unfolding table_count
number-told b {k} p =
    by_result (accepted b)
    (λ c e. let z : refused (number_of c) ≡ length_is k = sym (rw e) ∙ p in clash cc)
    (λ S e.
    by-test (ltb 15 (weight S))
    (λ t. let z : refused 12 ≡ length_is k = sym (large-reply b S e (ltb-true 15 (weight S) t)) ∙ p in clash cc)
    (λ t.
    let few = ltb-false 15 (weight S) t in
    let z : length_is (tables_with (weight S) S) ≡ length_is k = sym (counted-reply b S e few) ∙ p in
    let count : k ≡ tables_with (weight S) S = cc in
    record { system = S; is = e; few = few; count = count }))

-- A refusal has its reason: the code is refused; else it has more than 15 points.
pub data CountRefusal (b : List ℕ) : ℕ → Type 0 where
  no_code : (c : Refusal) → accepted b ≡ fault c → CountRefusal b (number_of c)
  too_many : (S : System) → accepted b ≡ done S → 15 < weight S → CountRefusal b 12

pub count-refusal : (b : List ℕ) {c : ℕ} → CountAnswer b ≡ refused c → CountRefusal b c
unfolding table_count
count-refusal b {c} p =
    by_result (accepted b)
    (λ x e.
    let z : refused (number_of x) ≡ refused c = sym (rw e) ∙ p in
    let y : c ≡ number_of x = cc in
    rw y (no_code x e))
    (λ S e.
    by-test (ltb 15 (weight S))
    (λ t.
    let h = ltb-true 15 (weight S) t in
    let z : refused 12 ≡ refused c = sym (large-reply b S e h) ∙ p in
    let y : c ≡ 12 = cc in
    rw y (too_many S e h))
    (λ t. let z : length_is (tables_with (weight S) S) ≡ refused c = sym (counted-reply b S e (ltb-false 15 (weight S) t)) ∙ p in clash cc))

-- Exactly so many tables have the code, by the entry "code of a map".
pub number-is-of-tables : (b : List ℕ) {k : ℕ} → all_below 256 b ≡ true → CountAnswer b ≡ length_is k → Exactly (λ f. code_of_map f ≡ gives b) k
number-is-of-tables b {k} bytes p =
    let r = number-told b p in
    let S = r.system in
    let a = accepted-is b S bytes r.is in
    rw r.count
    (exactly-same
    (λ f h. code_gives f (omega (arith, h.table.points, a.2)) h.table.inside ∙ ap gives (ap written h.code ∙ sym a.0))
    (λ f g.
    let t = map-given f b g in
    let same : system_of_table f ≡ S =
    written-equal (system_of_table f) S (table-canonical (length f) f refl t.0.table) a.1
    (omega (arith, table-weight (length f) f refl t.0.table, t.0.small)) a.2 (sym t.1 ∙ a.0) in
    record { table = record { points = sym (table-weight (length f) f refl t.0.table) ∙ ap weight same; inside = t.0.table }; code = same })
    (exactly-tables (weight S) S))

-- The replies to all codes of n points, in list order, add up to n to the power n.
listed-number : (n : ℕ) → n ≤ 15 → (S : System) → S ∈ codes n → number_in (CountAnswer (written S)) ≡ tables_with n S
listed-number n h S m =
    let s = codes-sound n S m in
    let few : weight S ≤ 15 = omega (arith, s.1) in
    ap number_in (counted-reply (written S) S (written_back S s.0 (omega arith)) few) ∙ ap (λ k. tables_with k S) s.1

pub answers-total : (n : ℕ) → n ≤ 15 → total (λ S. number_in (CountAnswer (written S))) (codes n) ≡ n ^ n
answers-total n h = total-same (λ S. number_in (CountAnswer (written S))) (tables_with n) (codes n) (listed-number n h) ∙ tables-of-codes n

-- the same of the running replies: a list of them, one to each code
pub replies-total : (n : ℕ) → n ≤ 15 → (replies : List (Result ℕ Refusal)) → map quantity_answer replies ≡ map (λ S. CountAnswer (written S)) (codes n)
    → total (λ r. number_in (quantity_answer r)) replies ≡ n ^ n
replies-total n h replies e =
    sym (total-map number_in quantity_answer replies)
    ∙ ap (total number_in) e
    ∙ total-map number_in (λ S. CountAnswer (written S)) (codes n)
    ∙ answers-total n h

-- The number for the code of a map, times the isomorphisms of that map to itself, is n!.
pub number-times-symmetries : (f b : List ℕ) {k : ℕ} → Wrote (code_of_map f) b → CountAnswer b ≡ length_is k → k * length (isomorphisms f f) ≡ factorial (length f)
number-times-symmetries f b {k} w p =
    let t = map-given f b (wrote-gives (code_of_map f) w) in
    let S = system_of_table f in
    let c = table-canonical (length f) f refl t.0.table in
    let points = table-weight (length f) f refl t.0.table in
    let r = number-told b p in
    let same : r.system ≡ S = given-system f b r.system (wrote-gives (code_of_map f) w) r.is in
    rw (r.count, same, points, automorphisms-counted f t.0.table) (tables-symmetries (length f) S c points)
