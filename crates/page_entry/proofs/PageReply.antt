-- The reply of the page entry: what is refused, and what is put.
use mathlib.Core.Path.{◌≡◌, sym, ◌∙◌}
use mathlib.Core.Bool.{Bool, true, false}
use mathlib.Core.List.{List}
use Prim.Native.Nat.{ℕ, ◌*◌, ◌≤◌, ◌<◌}
use native.Mathlib.Omega.{arith}
use lib.Dec.{ltb}
use lib.ListN.{length, take}
use borrow.Author.Tests.{lt-ltb, le-ltb, le-leb, lt-leb, ltb-true, ltb-false}
use Rattle.patterns.specs.declared.Refusal.{Refusal}
use Rattle.patterns.specs.System.{System}
use Rattle.patterns.specs.Reading.{done, fault, accepted}
use Rattle.patterns.specs.Replies.{number_of, PageAnswer, page_refused}
use Rattle.patterns.specs.Page.{successors, page_bytes, page_of, PageReplied}
use Rattle.memory.specs.Memory.{Holds}
use Rattle.memory.proofs.Parts.{held-points}
use Rattle.form_theory.proofs.PageBytes.{page-fits}
use Rattle.acceptance.proofs.Taken.{Taken, taken-points}
use Rattle.stepping.proofs.Following.{next-canonical}
use Rattle.step_replies.proofs.StepReplies.{taken_next}
use Rattle.paging.specs.HeldPages.{PageRoom, PagePut}
use Rattle.page_entry.specs.HeldCopies.{HeldCopies}

module _ {sizes : List ℕ} {m : ℕ} {trees : List ℕ} {n wanted : ℕ} (w : HeldCopies sizes m trees n wanted) where
  -- with 1,000 bytes for each code there is room
  pub roomy-enough : (room : ℕ) → 1000 * wanted ≤ room → (S : System) → Holds S (take m sizes) (take n trees) → false ≡ ltb room (length (page_bytes (successors wanted S)))
  roomy-enough room h S i =
      let c = next-canonical w.held S i in
      let fits = page-fits wanted S c (omega (arith, held-points i, w.held.small)) in
      sym (le-ltb room (length (page_bytes (successors wanted S))) (omega arith))

  -- After a test whether there is too little room.
  module _ (before : List ℕ) {b : Bool} (e : (S : System) → Holds S (take m sizes) (take n trees) → b ≡ ltb (length before) (length (page_bytes (successors wanted S)))) where
    fits : b ≡ false → (S : System) → Holds S (take m sizes) (take n trees) → length (page_bytes (successors wanted S)) ≤ length before
    fits f S i = ltb-false (length before) (length (page_bytes (successors wanted S))) (sym (e S i) ∙ f)

    pub short-replied : b ≡ true → (S : System) → Holds S (take m sizes) (take n trees) → PageReplied (done (successors wanted S)) before (page_refused 8) before
    short-replied t S i =
        let bytes = page_bytes (successors wanted S) in
        let short = lt-leb (length bytes) (length before) (ltb-true (length before) (length bytes) (sym (e S i) ∙ t)) in
        record { reply = rw short; output = rw short }

    pub page-fits-in : b ≡ false → PageRoom sizes m (take n trees) wanted before
    page-fits-in f = record { held = w.held; room = fits f w.held.system w.held.holds }

    pub whole-replied : b ≡ false → {a : PageAnswer} {after : List ℕ} → ((S : System) → Holds S (take m sizes) (take n trees) → PagePut (successors wanted S) before a after)
        → (S : System) → Holds S (take m sizes) (take n trees) → PageReplied (done (successors wanted S)) before a after
    whole-replied f p S i =
        let bytes = page_bytes (successors wanted S) in
        let whole = le-leb (length bytes) (length before) (fits f S i) in
        record { reply = rw whole (p S i).reply; output = rw whole (p S i).output }

-- Too many are wanted.
pub too-many-replied : (wanted : ℕ) (b before : List ℕ) → 1000 < wanted → PageReplied (page_of wanted b) before (page_refused 10) before
unfolding page_of
too-many-replied wanted b before h = let t = lt-ltb 1000 wanted h in record { reply = rw t; output = rw t }

module _ {wanted : ℕ} (few : wanted ≤ 1000) where
  -- The code is refused.
  pub fault-replied : (b before : List ℕ) (c : Refusal) → accepted b ≡ fault c → PageReplied (page_of wanted b) before (page_refused (number_of c)) before
  unfolding page_of
  fault-replied b before c e = let t = le-ltb 1000 wanted few in record { reply = rw (t, e); output = rw (t, e) }

  -- The code is accepted.
  module _ {b sizes trees : List ℕ} {m n : ℕ} (t : Taken b sizes trees m n) where
    pub taken-copies : length sizes ≡ 200 → length trees ≡ 200 → HeldCopies sizes m trees n wanted
    taken-copies u v = record { held = taken_next t u v; within = taken-points t; few = few }

    pub taken-replied : {before after : List ℕ} {a : PageAnswer}
        → ((S : System) → Holds S (take m sizes) (take n trees) → PageReplied (done (successors wanted S)) before a after) → PageReplied (page_of wanted b) before a after
    unfolding page_of
    taken-replied p =
        let q = p t.system t.holds in
        let k = le-ltb 1000 wanted few in
        record { reply = rw (k, t.is) q.reply; output = rw (k, t.is) q.output }
