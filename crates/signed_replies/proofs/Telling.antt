-- A caller can tell every reply from its number: "last", "none" and "first" are no refusal's number.
use mathlib.Core.Path.{◌≡◌, refl}
use mathlib.Core.Bool.{cond}
use Prim.Native.Nat.{ℕ, zero, suc, ◌<◌}
use native.Mathlib.Omega.{arith}
use lib.Dec.{eqb}
use borrow.Author.Tests.{ne_eqb}
use lib.IntN.{ℤ, pos, negsuc, neg_ℤ}
use Rattle.patterns.specs.declared.Refusal.{Refusal}
use Rattle.patterns.specs.declared.reply.Page.{Page}
use Rattle.patterns.specs.declared.reply.GreatestPeriod.{GreatestPeriod}
use Rattle.std.specs.Prelude.{Option, Some, None, Result, Ok, Err}
use Rattle.patterns.specs.Replies.{Answer, length_is, last, first_of_list, lacking, refused, number_of, successor_answer, predecessor_answer, isomorphism_answer, page_answer, greatest_answer}
use Rattle.patterns.specs.SignedReplies.{signed_of, page_count, page_length, code_length, code_period}
use Rattle.patterns.proofs.Causes.{cause-number}
use Rattle.signed_replies.specs.FoundNumbers.{found_signed}

-- the reply that a caller takes a number for
abbrev pub reply_of : ℤ → Answer
reply_of (pos n) = length_is n
reply_of (negsuc k) = cond (eqb k 99) last (cond (eqb k 100) lacking (cond (eqb k 101) first_of_list (refused (suc k))))

pub length_told : (n : ℕ) → reply_of (signed_of (length_is n)) ≡ length_is n
length_told n = refl

pub last-told : reply_of (signed_of last) ≡ last
last-told = refl

pub first-told : reply_of (signed_of first_of_list) ≡ first_of_list
first-told = refl

pub none_told : reply_of (signed_of lacking) ≡ lacking
none_told = refl

cause-told : (c : ℕ) → 0 < c → c < 100 → reply_of (neg_ℤ (pos c)) ≡ refused c
cause-told zero h k = absurd (omega arith)
cause-told (suc c) h k = rw (ne_eqb c 99 (λ e. omega arith), ne_eqb c 100 (λ e. omega arith), ne_eqb c 101 (λ e. omega arith))

pub refusal-told : (c : Refusal) → reply_of (signed_of (refused (number_of c))) ≡ refused (number_of c)
refusal-told c = let b = cause-number c in cause-told (number_of c) b.0 b.1

-- the two numbers of a page: how many codes and how many bytes, or the refusal from each of them
pub page-told : (r : Result Page Refusal) → (reply_of (signed_of (page_count (page_answer r))) ≡ page_count (page_answer r)) × (reply_of (signed_of (page_length (page_answer r))) ≡ page_length (page_answer r))
page-told (Ok page) = (refl, refl)
page-told (Err c) = (refusal-told c, refusal-told c)

-- and those of a code with the greatest period
pub greatest-told : (r : Result GreatestPeriod Refusal) → (reply_of (signed_of (code_length (greatest_answer r))) ≡ code_length (greatest_answer r))
    × (reply_of (signed_of (code_period (greatest_answer r))) ≡ code_period (greatest_answer r))
greatest-told (Ok code) = (refl, refl)
greatest-told (Err c) = (refusal-told c, refusal-told c)

-- the number of each reply that may find nothing
pub successor-signed : (r : Result (Option ℕ) Refusal) → found_signed (neg_ℤ (pos 100)) r ≡ signed_of (successor_answer r)
successor-signed (Ok (Some n)) = refl
successor-signed (Ok None) = refl
successor-signed (Err c) = refl

pub isomorphism-signed : (r : Result (Option ℕ) Refusal) → found_signed (neg_ℤ (pos 101)) r ≡ signed_of (isomorphism_answer r)
isomorphism-signed (Ok (Some n)) = refl
isomorphism-signed (Ok None) = refl
isomorphism-signed (Err c) = refl

pub predecessor-signed : (r : Result (Option ℕ) Refusal) → found_signed (neg_ℤ (pos 102)) r ≡ signed_of (predecessor_answer r)
predecessor-signed (Ok (Some n)) = refl
predecessor-signed (Ok None) = refl
predecessor-signed (Err c) = refl
