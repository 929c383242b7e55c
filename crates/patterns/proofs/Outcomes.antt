-- What a reply says of the outcome behind it, for any entry: a length is said where there is a result, which then stands in the first places; and what is refused
-- before there is one is refused with its cause. And the outcome of "code of a map" for a table that passes the checks.
use mathlib.Core.Path.{◌≡◌, refl, ap, sym, ◌∙◌}
use mathlib.Core.Bool.{true}
use mathlib.Core.List.{List}
use Prim.Native.Nat.{ℕ, ◌≤◌}
use lib.Dec.{leb}
use lib.ListN.{length, take, drop}
use lib.Seq.{take_at}
use borrow.Author.Tests.{le-ltb, le-leb}
use Rattle.lists.proofs.Tests.{by-test, clash}
use Rattle.patterns.specs.declared.Refusal.{Refusal}
use Rattle.patterns.specs.Written.{written}
use Rattle.patterns.specs.Table.{is_table, system_of_table}
use Rattle.patterns.specs.Reading.{Result, done, fault}
use Rattle.patterns.specs.Replies.{Answer, length_is, refused, number_of}
use Rattle.patterns.specs.Entry.{Outcome, gives, ends, begins, lacks, fails, outcome, Replied, checked_table, code_of_map}

-- a length is the reply only where there is a result, which then stands in the first places
pub result-written : {A : Type 0} (o : Outcome A) {before after : List A} {n : ℕ} → Replied o before (length_is n) after
    → (l : List A) × (o ≡ gives l) × (n ≡ length l) × (take n after ≡ l)
result-written (gives l) {before} {after} {n} p =
    by-test (leb (length l) (length before))
    (λ e.
    let q : length_is n ≡ length_is (length l) = p.reply ∙ rw e in
    let k : n ≡ length l = cc in
    (l, refl, k, ap (take n) (p.output ∙ rw e) ∙ take_at l (drop (length l) before) n (sym k)))
    (λ e. let q : length_is n ≡ refused 8 = p.reply ∙ rw e in clash cc)
result-written ends p = let q = p.reply in clash cc
result-written begins p = let q = p.reply in clash cc
result-written lacks p = let q = p.reply in clash cc
result-written (fails c) p = let q = p.reply in clash cc

-- given room for it, a result is what is written
pub result-fills : {A : Type 0} (l : List A) {before after : List A} {a : Answer} → Replied (gives l) before a after → length l ≤ length before
    → (a ≡ length_is (length l)) × (take (length l) after ≡ l)
result-fills l {before} p room =
    let e = le-leb (length l) (length before) room in
    (p.reply ∙ rw e, ap (take (length l)) (p.output ∙ rw e) ∙ take_at l (drop (length l) before) (length l) refl)

-- something is found, or there is a refusal
pub by_result : {A P : Type 0} (o : Result A) → ((c : Refusal) → o ≡ fault c → P) → ((x : A) → o ≡ done x → P) → P
by_result (done x) f g = g x refl
by_result (fault c) f g = f c refl

-- a result is given only of what was found
pub outcome-gives : {A B : Type 0} (r : Result A) (f : A → List B) {l : List B} → outcome r (λ x. gives (f x)) ≡ gives l → (x : A) × (r ≡ done x) × (f x ≡ l)
outcome-gives (done x) f {l} e = let p : f x ≡ l = cc in (x, refl, p)
outcome-gives (fault c) f e = clash cc

-- the reply of an entry that goes on with what was found, where that is a refusal
pub outcome-refused : {A B : Type 0} {o : Result A} (f : A → Outcome B) (before : List B) (c : Refusal) → o ≡ fault c
    → Replied (outcome o f) before (refused (number_of c)) before
outcome-refused f before c e = rw e (record { reply = refl; output = refl })

-- the code of a table that passes the checks
pub code_gives : (f : List ℕ) → length f ≤ 200 → is_table f ≡ true → code_of_map f ≡ gives (written (system_of_table f))
unfolding code_of_map checked_table
code_gives f h t = rw (le-ltb 200 (length f) h, t)
