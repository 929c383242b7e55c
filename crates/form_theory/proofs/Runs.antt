-- Calls made in turn, whatever the step is. Any buffers allow such calls; and where the step finds the codes of a list, one after another and then "last", the calls
-- write these in their order.
use mathlib.Core.Path.{◌≡◌, refl, ap, ap₂, sym, ◌∙◌}
use mathlib.Core.Logic.{◌⊎◌, inl, inr}
use mathlib.Core.Bool.{true, false, cond, true≢false}
use mathlib.Core.List.{List, [], ◌∷◌, ◌++◌, map, append-nil}
use Prim.Native.Nat.{ℕ, zero, suc, ◌≤◌, ◌<◌}
use native.Mathlib.Omega.{arith}
use lib.Dec.{leb}
use lib.ListN.{length, take, drop, length-map, length-append}
use lib.Seq.{take_at, take-append-le}
use borrow.Author.Tests.{leb-true, leb-false}
use Rattle.lists.proofs.Tests.{◌∈◌, by-test, either, clash}
use Rattle.lists.proofs.Members.{in_head, in_tail, in-cons-cases, not-in-nil}
use Rattle.patterns.specs.System.{System}
use Rattle.patterns.specs.Written.{written}
use Rattle.patterns.specs.Replies.{Answer, length_is, last, first_of_list, lacking, refused}
use Rattle.patterns.specs.Entry.{Outcome, gives, ends, answered, filled, Replied}
use Rattle.patterns.specs.Calls.{State, wrote, Call, entry, said_last, said_first, said_none, refusal, CallsBy, no_buffer, writes, says_last, says_first, says_none, refuses, entries, ended, roomy}

-- one call with the first buffer, and the calls with the others
next-call : {step : State → Outcome ℕ} {s : State} {b : List ℕ} {bs : List (List ℕ)} → ((t : State) → (calls : List Call) × CallsBy step t bs calls)
    → (a : Answer) → a ≡ answered (step s) b → (calls : List Call) × CallsBy step s (b ∷ bs) calls
next-call {step} {s} {b} more (length_is k) e =
    let after = filled (step s) b in
    let m = more (wrote (take k after)) in
    (entry (take k after) ∷ m.0, writes k after (record { reply = e; output = refl }) m.1)
next-call {step} {s} {b} more last e = (said_last ∷ [], says_last (filled (step s) b) (record { reply = e; output = refl }))
next-call {step} {s} {b} more first_of_list e = (said_first ∷ [], says_first (filled (step s) b) (record { reply = e; output = refl }))
next-call {step} {s} {b} more lacking e = (said_none ∷ [], says_none (filled (step s) b) (record { reply = e; output = refl }))
next-call {step} {s} {b} more (refused c) e =
    let m = more s in
    (refusal c b ∷ m.0, refuses c (filled (step s) b) (record { reply = e; output = refl }) m.1)

-- such calls are possible with any buffers
pub calls-exist : (step : State → Outcome ℕ) (buffers : List (List ℕ)) (s : State) → (calls : List Call) × CallsBy step s buffers calls
calls-exist step [] s = ([], no_buffer)
calls-exist step (b ∷ bs) s = next-call (λ t. calls-exist step bs t) (answered (step s) b) refl

-- Finds step s r: from state s on the calls find the codes of r, one after another, and then "last"
pub data Finds (step : State → Outcome ℕ) : State → List System → Type 0 where
  at_end : {s : State} → step s ≡ ends → Finds step s []
  at_code : {s : State} {S : System} {r : List System} → step s ≡ gives (written S) → Finds step (wrote (written S)) r → Finds step s (S ∷ r)

-- the calls that are made where the codes of r are still to come
unfoldable pub run_of : List System → List (List ℕ) → List Call
run_of r [] = []
run_of [] (b ∷ bs) = said_last ∷ []
run_of (S ∷ r) (b ∷ bs) =
    let written-now = entry (written S) ∷ run_of r bs in
    let short = refusal 8 b ∷ run_of (S ∷ r) bs in
    cond (leb (length (written S)) (length b)) written-now short

run-writes : (S : System) (r : List System) (b : List ℕ) (bs : List (List ℕ)) → leb (length (written S)) (length b) ≡ true
    → run_of (S ∷ r) (b ∷ bs) ≡ entry (written S) ∷ run_of r bs
unfolding run_of
run-writes S r b bs t = rw (t, run_of)

run-refuses : (S : System) (r : List System) (b : List ℕ) (bs : List (List ℕ)) → leb (length (written S)) (length b) ≡ false
    → run_of (S ∷ r) (b ∷ bs) ≡ refusal 8 b ∷ run_of (S ∷ r) bs
unfolding run_of
run-refuses S r b bs t = rw (t, run_of)

-- what an answer says where a code is found
module _ {before after : List ℕ} (b : List ℕ) where
  found-length : (k : ℕ) → Replied (gives b) before (length_is k) after → (leb (length b) (length before) ≡ true) × (take k after ≡ b)
  found-length k p =
      by-test (leb (length b) (length before))
      (λ t.
      let e : length_is k ≡ length_is (length b) = rw t at p.reply in
      let f : after ≡ b ++ drop (length b) before = rw t at p.output in
      let g : k ≡ length b = cc in
      (t, rw f (take_at b (drop (length b) before) k (sym g))))
      (λ t. let e : length_is k ≡ refused 8 = rw t at p.reply in clash cc)

  found-last : Replied (gives b) before last after → ⊥
  found-last p =
      by-test (leb (length b) (length before))
      (λ t. let e : last ≡ length_is (length b) = rw t at p.reply in clash cc)
      (λ t. let e : last ≡ refused 8 = rw t at p.reply in clash cc)

  found_first : Replied (gives b) before first_of_list after → ⊥
  found_first p =
      by-test (leb (length b) (length before))
      (λ t. let e : first_of_list ≡ length_is (length b) = rw t at p.reply in clash cc)
      (λ t. let e : first_of_list ≡ refused 8 = rw t at p.reply in clash cc)

  found_none : Replied (gives b) before lacking after → ⊥
  found_none p =
      by-test (leb (length b) (length before))
      (λ t. let e : lacking ≡ length_is (length b) = rw t at p.reply in clash cc)
      (λ t. let e : lacking ≡ refused 8 = rw t at p.reply in clash cc)

  found-refused : (c : ℕ) → Replied (gives b) before (refused c) after → (leb (length b) (length before) ≡ false) × (c ≡ 8)
  found-refused c p =
      by-test (leb (length b) (length before))
      (λ t. let e : refused c ≡ length_is (length b) = rw t at p.reply in clash cc)
      (λ t. let e : refused c ≡ refused 8 = rw t at p.reply in (t, cc))

-- the calls are those, whatever the entries leave open
pub calls-run : {step : State → Outcome ℕ} {s : State} {buffers : List (List ℕ)} {calls : List Call} {r : List System} → CallsBy step s buffers calls → Finds step s r
    → calls ≡ run_of r buffers
unfolding run_of
calls-run no_buffer f = refl
calls-run (writes k after p more) (at_end e) = let q = rw e at p.reply in clash cc
calls-run {step} (writes {before = b} {rest = bs} k after p more) (at_code {S = S} {r = r} e f) =
    let q = found-length (written S) k (rw e at p) in
    let i = calls-run {r = r} more (rw q.1 f) in
    rw (run-writes S r b bs q.0) (ap₂ (λ e c. entry e ∷ c) q.1 i)
calls-run (says_last after p) (at_end e) = refl
calls-run (says_last after p) (at_code {S = S} e f) = absurd (found-last (written S) (rw e at p))
calls-run (says_first after p) (at_end e) = let q = rw e at p.reply in clash cc
calls-run (says_first after p) (at_code {S = S} e f) = absurd (found_first (written S) (rw e at p))
calls-run (says_none after p) (at_end e) = let q = rw e at p.reply in clash cc
calls-run (says_none after p) (at_code {S = S} e f) = absurd (found_none (written S) (rw e at p))
calls-run (refuses c after p more) (at_end e) = let q = rw e at p.reply in clash cc
calls-run (refuses {before = b} {rest = bs} c after p more) (at_code {S = S} {r = r} e f) =
    let q = found-refused (written S) c (rw e at p) in
    let i = calls-run more (at_code e f) in
    rw (run-refuses S r b bs q.0) (ap₂ (λ c calls. refusal c b ∷ calls) q.1 i)

-- what the calls write is a beginning of the list, and all of it where one says "last"
pub run-order : (r : List System) (buffers : List (List ℕ))
    → (later : List (List ℕ)) × (map written r ≡ entries (run_of r buffers) ++ later) × (ended (run_of r buffers) ≡ true → later ≡ [])
unfolding run_of
run-order r [] = (map written r, refl, λ e. absurd (true≢false (sym e)))
run-order [] (b ∷ bs) = ([], refl, λ e. refl)
run-order (S ∷ r) (b ∷ bs) =
    by-test (leb (length (written S)) (length b))
    (λ t. let i = run-order r bs in rw (run-writes S r b bs t) (i.0, ap (written S ∷◌) i.1, i.2))
    (λ t. let i = run-order (S ∷ r) bs in rw (run-refuses S r b bs t) i)

-- only short buffers are refused, and with 8
pub run-refusals : (k : ℕ) (r : List System) (buffers : List (List ℕ)) → ((S : System) → S ∈ r → length (written S) ≤ k)
    → (c : ℕ) (b : List ℕ) → refusal c b ∈ run_of r buffers → (c ≡ 8) × (length b < k)
unfolding run_of
run-refusals k r [] f c b m = not-in-nil m
run-refusals k [] (a ∷ bs) f c b m = either (in-cons-cases m) (λ e. clash cc) (λ i. not-in-nil i)
run-refusals k (S ∷ r) (a ∷ bs) f c b m =
    by-test (leb (length (written S)) (length a))
    (λ t. either (in-cons-cases (rw (run-writes S r a bs t) at m))
    (λ e. clash cc)
    (λ i. run-refusals k r bs (λ R j. f R (in_tail j)) c b i))
    (λ t. either (in-cons-cases (rw (run-refuses S r a bs t) at m))
    (λ e.
    let u : c ≡ 8 = cc in
    let v : b ≡ a = cc in
    let w = leb-false (length (written S)) (length a) t in
    (u, omega (arith, ap length v, f S in_head)))
    (λ i. run-refusals k (S ∷ r) bs f c b i))

roomy-bound : (b : List ℕ) (bs : List (List ℕ)) → (roomy (b ∷ bs) ≤ suc (roomy bs)) × (length b < 1000 → roomy (b ∷ bs) ≡ roomy bs)
roomy-bound b bs =
    by-test (leb 1000 (length b))
    (λ t. rw t (omega arith, λ h. let g = leb-true 1000 (length b) t in absurd (omega arith)))
    (λ t. rw t (omega arith, λ h. refl))

-- with k buffers that have room, k codes are written, or some call says "last"
pub run-reaches : (k : ℕ) (r : List System) (buffers : List (List ℕ)) → ((S : System) → S ∈ r → length (written S) ≤ 1000) → k ≤ roomy buffers
    → (k ≤ length (entries (run_of r buffers))) ⊎ (ended (run_of r buffers) ≡ true)
unfolding run_of
run-reaches k r [] f h = inl (omega arith)
run-reaches k [] (b ∷ bs) f h = inr refl
run-reaches zero (S ∷ r) (b ∷ bs) f h = inl (omega arith)
run-reaches (suc k) (S ∷ r) (b ∷ bs) f h =
    by-test (leb (length (written S)) (length b))
    (λ t. rw (run-writes S r b bs t) (
    either (run-reaches k r bs (λ R j. f R (in_tail j)) (omega (arith, (roomy-bound b bs).0)))
    (λ i. inl (omega arith))
    (λ i. inr i)))
    (λ t. rw (run-refuses S r b bs t) (
    let g = leb-false (length (written S)) (length b) t in
    let m = f S in_head in
    run-reaches (suc k) (S ∷ r) bs f (omega (arith, (roomy-bound b bs).1 (omega arith)))))

-- so with more of them than codes some call says "last"
pub run_ends : (r : List System) (buffers : List (List ℕ)) → ((S : System) → S ∈ r → length (written S) ≤ 1000) → length r < roomy buffers → ended (run_of r buffers) ≡ true
run_ends r buffers f h =
    let o = run-order r buffers in
    let e = entries (run_of r buffers) in
    either (run-reaches (suc (length r)) r buffers f (omega arith))
    (λ i. absurd (omega (arith, ap length o.1, length-append e o.0, length-map r written)))
    (λ i. i)

-- and where k codes are written, or "last" is said, the first k that are written are the first k of the list
pub run-first : (k : ℕ) (r : List System) (buffers : List (List ℕ)) → (k ≤ length (entries (run_of r buffers))) ⊎ (ended (run_of r buffers) ≡ true)
    → take k (map written r) ≡ take k (entries (run_of r buffers))
run-first k r buffers h =
    let o = run-order r buffers in
    let e = entries (run_of r buffers) in
    ap (take k) o.1
    ∙ either h
    (λ i. take-append-le k e o.0 i)
    (λ i. ap (take k) (ap (e ++◌) (o.2 i) ∙ append-nil e))
