-- The two numbers of a page: at most 1,000 codes, and no more bytes than the lent slice has.
use mathlib.Core.Path.{◌≡◌, refl, sym, ◌∙◌, ap, subst}
use mathlib.Core.List.{List}
use Prim.Native.Nat.{ℕ, ◌*◌, ◌≤◌, ◌<◌, ◌^◌}
use native.Mathlib.Omega.{arith}
use lib.Dec.{leb, ltb}
use lib.IntN.{ℤ}
use lib.ListN.{length}
use borrow.Author.Tests.{leb-true, ltb-false}
use Rattle.lists.proofs.Tests.{by-test, clash}
use Rattle.patterns.specs.declared.Refusal.TheVariants.{Room, Wanted}
use Rattle.patterns.specs.System.{System}
use Rattle.patterns.specs.Reading.{Result, done, fault, mapped, accepted}
use Rattle.patterns.specs.Replies.{PageAnswer}
use Rattle.patterns.specs.Page.{successors, page_bytes, page_of, page_answered, PageReplied}
use Rattle.patterns.specs.SignedReplies.{signed_of, page_count, page_length, PageReported}
use Rattle.form_theory.proofs.Turns.{successors-few}
use Rattle.c_interface.proofs.Fitting.{Fits, refused-fits}

-- a page has at most 1,000 codes
page-codes : (wanted : ℕ) (b : List ℕ) (page : List System) → page_of wanted b ≡ done page → length page ≤ 1000
unfolding page_of
page-codes wanted b page e =
    by-test (ltb 1000 wanted)
    (λ t. let q : fault Wanted ≡ done page = sym (rw t) ∙ e in clash cc)
    (λ t. of (ltb-false 1000 wanted t) (accepted b) (sym (rw t) ∙ e))
  where
    of : wanted ≤ 1000 → (o : Result System) → mapped (successors wanted) o ≡ done page → length page ≤ 1000
    of few (done S) q = let z : successors wanted S ≡ page = cc in omega (arith, successors-few wanted S, ap length z)
    of few (fault c) q = clash cc

-- both numbers of an answer fit
abbrev BothFit : PageAnswer → Type 0
BothFit a = Fits (page_count a) × Fits (page_length a)

answered-fit : (found : Result (List System)) (out : List ℕ) → ((page : List System) → found ≡ done page → length page ≤ 1000) → length out * 1 < 2 ^ 63
    → BothFit (page_answered found out)
answered-fit (done page) out few h =
    let bytes = length (page_bytes page) in
    by-test (leb bytes (length out))
    (λ t. rw t (let k = leb-true bytes (length out) t in (record { sfits = omega (arith, few page refl) }, record { sfits = omega arith })))
    (λ t. rw t (refused-fits Room, refused-fits Room))
answered-fit (fault c) out few h = (refused-fits c, refused-fits c)

module _ (wanted : ℕ) (b : List ℕ) {before after : List ℕ} {a : PageAnswer} (p : PageReplied (page_of wanted b) before a after) where
  pub page-fit : length before * 1 < 2 ^ 63 → Fits (page_count a) × Fits (page_length a)
  page-fit room = subst BothFit (sym p.reply) (answered-fit (page_of wanted b) before (page-codes wanted b) room)

  pub page-reported : {codes bytes : ℤ} → codes ≡ signed_of (page_count a) → bytes ≡ signed_of (page_length a)
      → PageReported (page_of wanted b) before codes bytes after
  page-reported e f =
      record {
        codes_are = e ∙ ap (λ a. signed_of (page_count a)) p.reply;
        bytes_are = f ∙ ap (λ a. signed_of (page_length a)) p.reply;
        output = p.output;
      }
