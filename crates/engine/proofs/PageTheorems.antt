-- What follows from the promise of the page entry: its codes are what single successor calls made in turn write, there are fewer than wanted only where these come to
-- "last", and a refusal leaves the output as it was.
use mathlib.Core.Path.{◌≡◌, refl, ap, sym, ◌∙◌}
use mathlib.Core.Bool.{true}
use mathlib.Core.List.{List, ◌∷◌, ◌++◌, map}
use mathlib.Core.Option.{Option, none, some}
use Prim.Native.Nat.{ℕ, zero, suc, ◌*◌, ◌≤◌, ◌<◌}
use native.Mathlib.Omega.{arith}
use lib.Dec.{leb, ltb}
use lib.ListN.{length, take, drop, replicate, length-map, length-take}
use lib.Seq.{take_at, take_all}
use borrow.Author.Tests.{leb-false, ltb-true, ltb-false, le-ltb, le-leb}
use Rattle.lists.specs.Select.{gather, next}
use Rattle.lists.proofs.Tests.{by-test, clash}
use Rattle.lists.proofs.Gathering.{gather-map}
use Rattle.patterns.specs.declared.Refusal.{Refusal}
use Rattle.patterns.specs.System.{System, weight, codes, compare_system}
use Rattle.patterns.specs.Written.{written}
use Rattle.patterns.specs.Reading.{Result, done, fault, mapped, accepted}
use Rattle.patterns.specs.Replies.{number_of, length_is, refused, PageAnswer, page_is, page_refused}
use Rattle.patterns.specs.Entry.{Replied, filled, outcome, listed, answered, successor_of}
use Rattle.patterns.specs.Page.{later, successors, page_bytes, page_of, page_found, page_answered, PageReplied}
use Rattle.patterns.specs.Calls.{wrote, Call, Calls, step_of, entries, ended, roomy}
use Rattle.form_theory.proofs.Runs.{calls-exist}
use Rattle.form_theory.proofs.WrittenBack.{accepted-canonical}
use Rattle.form_theory.proofs.PageBytes.{page-fits}
use Rattle.system_theory.proofs.Successors.{list-cut}
use Rattle.form_theory.proofs.Turns.{turns-first, turns-last, successors-few}

-- codes one after another with nothing between them
abbrev pub joined : List (List ℕ) → List ℕ
joined l = gather (λ b. b) l

-- A page that was written.
module _ (wanted : ℕ) (b : List ℕ) {before after : List ℕ} {k l : ℕ} (p : PageReplied (page_of wanted b) before (page_is k l) after) where
  -- the code was accepted, and the first places hold the codes after it
  pub page-written : (S : System) × (accepted b ≡ done S) × (k ≡ length (successors wanted S)) × (take l after ≡ page_bytes (successors wanted S))
      × (l ≡ length (page_bytes (successors wanted S)))
  unfolding page_of
  page-written =
      by-test (ltb 1000 wanted)
      (λ t. let q : page_is k l ≡ page_refused 10 = p.reply ∙ rw t in clash cc)
      (λ t. of (accepted b) refl (p.reply ∙ rw t) (p.output ∙ rw t))
    where
      of : (o : Result System) → accepted b ≡ o → page_is k l ≡ page_answered (mapped (successors wanted) o) before
          → after ≡ filled (page_found (mapped (successors wanted) o)) before
          → (S : System) × (accepted b ≡ done S) × (k ≡ length (successors wanted S)) × (take l after ≡ page_bytes (successors wanted S))
          × (l ≡ length (page_bytes (successors wanted S)))
      of (done S) e q u =
          let bytes = page_bytes (successors wanted S) in
          by-test (leb (length bytes) (length before))
          (λ t.
          let v : page_is k l ≡ page_is (length (successors wanted S)) (length bytes) = rw t at q in
          let w : after ≡ bytes ++ drop (length bytes) before = rw t at u in
          let z : l ≡ length bytes = cc in
          (S, e, cc, ap (take l) w ∙ take_at bytes (drop (length bytes) before) l (sym z), z))
          (λ t. let v : page_is k l ≡ page_refused 8 = rw t at q in clash cc)
      of (fault c) e q u = clash cc

  -- Bytes and counts are those of single successor calls made in turn, over any buffers of which as many as are wanted have 1,000 bytes: the codes of the page are
  -- the first that these write.
  module _ (n : ℕ) {buffers : List (List ℕ)} {calls : List Call} (made : Calls n (wrote b) buffers calls) (room : wanted ≤ roomy buffers) where
    in-turn : map written (successors wanted page-written.0) ≡ take wanted (entries calls)
    in-turn = turns-first b page-written.1 n made wanted room

    joined-turns : page_bytes (successors wanted page-written.0) ≡ joined (take wanted (entries calls))
    joined-turns = sym (gather-map (λ b. b) written (successors wanted page-written.0)) ∙ ap joined in-turn

    pub page-in-turn : (k ≡ length (take wanted (entries calls))) × (take l after ≡ joined (take wanted (entries calls)))
        × (l ≡ length (joined (take wanted (entries calls))))
    page-in-turn =
        let w = page-written in (
          w.2 ∙ sym (length-map (successors wanted w.0) written) ∙ ap length in-turn,
          w.3 ∙ joined-turns,
          w.4 ∙ ap length joined-turns,
        )

    -- fewer than wanted only where a call said "last"
    pub page-ends : k < wanted → ended calls ≡ true
    page-ends h = let w = page-written in turns-last b w.1 n made wanted room (omega (arith, w.2))

  -- never more than wanted
  pub page-few : k ≤ wanted
  page-few = let w = page-written in omega (arith, w.2, successors-few wanted w.0)

  -- nor more than 1,000 bytes for each
  pub page-bytes : l ≤ 1000 * wanted
  page-bytes =
      let w = page-written in
      let c = accepted-canonical b w.0 w.1 in
      omega (arith, w.4, page-fits wanted w.0 c.0 c.1)

  -- and where there are fewer the page is all that is left of the list
  pub page-short : k < wanted → (S : System) × (accepted b ≡ done S) × (earlier : List System) × (codes (weight S) ≡ earlier ++ (S ∷ successors wanted S))
  unfolding successors
  page-short h =
      let w = page-written in
      let S = w.0 in
      let c = list-cut S (accepted-canonical b S w.1).0 in
      let all : take wanted (later S) ≡ later S = take_all wanted (later S) (omega (arith, w.2, length-take wanted (later S))) in
      (S, w.1, c.0, c.1 ∙ ap (λ l. c.0 ++ (S ∷ l)) (sym all))

-- Such calls exist: any buffers allow them, and there are buffers enough.
abbrev kilobyte : List ℕ
kilobyte = replicate 1000 0

roomy-copies : (k : ℕ) → roomy (replicate k kilobyte) ≡ k
roomy-copies zero = refl
roomy-copies (suc k) = ap suc (roomy-copies k)

pub turns-exist : (n wanted : ℕ) (b : List ℕ) → (buffers : List (List ℕ)) × (calls : List Call) × (Calls n (wrote b) buffers calls) × (wanted ≤ roomy buffers)
turns-exist n wanted b =
    let buffers = replicate wanted kilobyte in
    let c = calls-exist (step_of n) buffers (wrote b) in
    (buffers, c.0, c.1, omega (arith, roomy-copies wanted))

-- Why a page is refused: too many codes are wanted; else the code is refused; else there is too little room for the whole page.
pub data PageRefusal (wanted : ℕ) (b before : List ℕ) : ℕ → Type 0 where
  too_many : 1000 < wanted → PageRefusal wanted b before 10
  no_code : (c : Refusal) → wanted ≤ 1000 → accepted b ≡ fault c → PageRefusal wanted b before (number_of c)
  no_room : (S : System) → wanted ≤ 1000 → accepted b ≡ done S → length before < length (page_bytes (successors wanted S)) → PageRefusal wanted b before 8

-- A refusal has its reason, and leaves the output as it was.
pub page-refusal : (wanted : ℕ) (b : List ℕ) {before after : List ℕ} {c : ℕ} → PageReplied (page_of wanted b) before (page_refused c) after
    → PageRefusal wanted b before c × (after ≡ before)
unfolding page_of
page-refusal wanted b {before} {after} {c} p =
    by-test (ltb 1000 wanted)
    (λ t.
    let q : page_refused c ≡ page_refused 10 = p.reply ∙ rw t in
    let z : c ≡ 10 = cc in
    (rw z (too_many (ltb-true 1000 wanted t)), p.output ∙ rw t))
    (λ t. of (ltb-false 1000 wanted t) (accepted b) refl (p.reply ∙ rw t) (p.output ∙ rw t))
  where
    of : wanted ≤ 1000 → (o : Result System) → accepted b ≡ o → page_refused c ≡ page_answered (mapped (successors wanted) o) before
        → after ≡ filled (page_found (mapped (successors wanted) o)) before
        → PageRefusal wanted b before c × (after ≡ before)
    of few (done S) e q u =
        let bytes = page_bytes (successors wanted S) in
        by-test (leb (length bytes) (length before))
        (λ t. let v : page_refused c ≡ page_is (length (successors wanted S)) (length bytes) = rw t at q in clash cc)
        (λ t.
        let v : page_refused c ≡ page_refused 8 = rw t at q in
        let z : c ≡ 8 = cc in
        (rw z (no_room S few e (leb-false (length bytes) (length before) t)), rw t at u))
    of few (fault x) e q u = let z : c ≡ number_of x = cc in (rw z (no_code x few e), u)

-- With 1,000 bytes for each code that is wanted, a page of at most 1,000 codes is never refused for want of room.
pub page-roomy : (wanted : ℕ) (b : List ℕ) {before after : List ℕ} {a : PageAnswer} (S : System) → wanted ≤ 1000 → accepted b ≡ done S → 1000 * wanted ≤ length before
    → PageReplied (page_of wanted b) before a after → a ≡ page_is (length (successors wanted S)) (length (page_bytes (successors wanted S)))
unfolding page_of
page-roomy wanted b {before} S few e room p =
    let c = accepted-canonical b S e in
    let bytes = length (page_bytes (successors wanted S)) in
    let fits = page-fits wanted S c.0 c.1 in
    p.reply ∙ rw (le-ltb 1000 wanted few, e, le-leb bytes (length before) (omega arith))

-- Where a single successor call of the code is refused, and not for want of room, the page is refused with the same number, unless too many codes are wanted.
pub page-refused-alike : (wanted : ℕ) (b : List ℕ) {before after lent left : List ℕ} {a : PageAnswer} {c : ℕ} → wanted ≤ 1000 → Replied (successor_of b) lent (refused c) left
    → (c ≡ 8 → ⊥) → PageReplied (page_of wanted b) before a after → a ≡ page_refused c
unfolding page_of successor_of
page-refused-alike wanted b {before} {lent = lent} {a = a} {c = c} few r h p = of (accepted b) (p.reply ∙ rw (le-ltb 1000 wanted few)) r.reply
  where
    single : (o : Option System) → refused c ≡ answered (listed o) lent → a ≡ page_refused c
    single none e = clash cc
    single (some S) e =
        by-test (leb (length (written S)) (length lent))
        (λ t. let v : refused c ≡ length_is (length (written S)) = rw t at e in clash cc)
        (λ t. let v : refused c ≡ refused 8 = rw t at e in let z : c ≡ 8 = cc in absurd (h z))

    of : (o : Result System) → a ≡ page_answered (mapped (successors wanted) o) before
        → refused c ≡ answered (outcome o (λ S. listed (next compare_system S (codes (weight S))))) lent → a ≡ page_refused c
    of (done S) q e = single (next compare_system S (codes (weight S))) e
    of (fault x) q e = let z : c ≡ number_of x = cc in q ∙ ap page_refused (sym z)
