-- Every reply fits a signed number of 64 bits: a length is at most that of a lent slice, which has fewer than 2 ^ 63 places; n is at most 200; and the
-- number of a cause is below 100.
use mathlib.Core.Path.{◌≡◌, refl, sym, ◌∙◌, ap, subst}
use mathlib.Core.List.{List}
use Prim.Native.Nat.{ℕ, ◌*◌, ◌≤◌, ◌<◌, ◌^◌}
use native.Mathlib.Omega.{arith}
use lib.Dec.{leb}
use lib.IntN.{ℤ}
use lib.ListN.{length}
use mir.Syntax.{w64}
use mir.Val.{SFits, to_z, of_z}
use borrow.Author.Tests.{leb-true}
use Rattle.lists.proofs.Tests.{by-test}
use Rattle.std.specs.Prelude.{Option, Some, None, Result as Reply, Ok, Err}
use Rattle.patterns.specs.declared.Refusal.{Refusal}
use Rattle.patterns.specs.declared.Refusal.TheVariants.{Room}
use Rattle.patterns.specs.System.{System, weight}
use Rattle.patterns.specs.Reading.{Result, done, fault, accepted}
use Rattle.patterns.specs.Replies.{Answer, length_is}
use Rattle.patterns.specs.Entry.{Outcome, gives, ends, begins, lacks, fails, answer, answered, Replied, accept_of, IsomorphismReplied}
use Rattle.form_theory.proofs.WrittenBack.{accepted-canonical}
use Rattle.patterns.specs.SignedReplies.{signed_of, Reported, IsomorphismReported}
use Rattle.signed_replies.specs.FoundNumbers.{found_signed}
pub use Rattle.signed_replies.proofs.Fitting.{Fits, read_back, refused-fits}

pub small-fits : (n : ℕ) → n ≤ 200 → Fits (length_is n)
small-fits n h = record { sfits = omega arith }

-- acceptance
pub accept-fits : (b : List ℕ) → Fits (accept_of b)
unfolding accept_of
accept-fits b = of (accepted b) (λ S e. (accepted-canonical b S e).1)
  where
    of : (o : Result System) → ((S : System) → o ≡ done S → weight S ≤ 200) → Fits (answer o (λ S. length_is (weight S)))
    of (done S) h = small-fits (weight S) (h S refl)
    of (fault c) h = refused-fits c

-- a result written into a lent slice
answered-fits : (o : Outcome ℕ) (out : List ℕ) → length out * 1 < 2 ^ 63 → Fits (answered o out)
answered-fits (gives l) out h =
    by-test (leb (length l) (length out))
    (λ t. rw t (let k = leb-true (length l) (length out) t in record { sfits = omega arith }))
    (λ t. rw t (refused-fits Room))
answered-fits ends out h = record { sfits = omega arith }
answered-fits begins out h = record { sfits = omega arith }
answered-fits lacks out h = record { sfits = omega arith }
answered-fits (fails c) out h = refused-fits c

module _ {before after : List ℕ} {a : Answer} (room : length before * 1 < 2 ^ 63) where
  pub replied-fits : {o : Outcome ℕ} → Replied o before a after → Fits a
  replied-fits {o} p = subst Fits (sym p.reply) (answered-fits o before room)

  pub reported : {o : Outcome ℕ} → Replied o before a after → {z : ℤ} → z ≡ signed_of a → Reported o before (to_z w64 (of_z w64 z)) after
  reported {o} p e = record { number = read_back (e ∙ ap signed_of p.reply) (answered-fits o before room); output = p.output }

  pub isomorphism-fits : {f g : List ℕ} → IsomorphismReplied f g before a after → Fits a
  isomorphism-fits p = replied-fits p.replied

  pub isomorphism-reported : {f g : List ℕ} → IsomorphismReplied f g before a after → {z : ℤ} → z ≡ signed_of a
      → IsomorphismReported f g before (to_z w64 (of_z w64 z)) after
  isomorphism-reported p e = record { reply = a; number = read_back e (isomorphism-fits p); replied = p }

-- a reply that may find nothing, whatever number stands for that
pub found-fits : {none : ℤ} → SFits w64 none → (shown : Reply (Option ℕ) Refusal → Answer) → ((n : ℕ) → shown (Ok (Some n)) ≡ length_is n)
    → (r : Reply (Option ℕ) Refusal) → Fits (shown r) → SFits w64 (found_signed none r)
found-fits h shown e (Ok (Some n)) f = subst Fits (e n) f
found-fits h shown e (Ok None) f = h
found-fits h shown e (Err c) f = refused-fits c
