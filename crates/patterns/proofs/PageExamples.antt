-- Entry "a page of codes", computed in the list of 3 points, which has seven codes.
use Rattle.std.specs.Prelude.{Ok, Err}
use mathlib.Core.Path.{◌≡◌, refl}
use mathlib.Core.List.{List, [], ◌∷◌, ◌++◌, head-eq_of_cons-eq}
use Prim.Native.Nat.{ℕ}
use native.Mathlib.Omega.{arith}
use lib.IntN.{ℤ, pos, neg_ℤ}
use Rattle.patterns.specs.declared.Refusal.TheVariants.{Count, Wanted}
use Rattle.patterns.specs.Replies.{PageAnswer, page_is, page_refused, page_answer}
use Rattle.patterns.specs.Page.{page_of, PageReplied}
use Rattle.patterns.specs.SignedReplies.{PageReported}

-- the third code of the list, and the four that follow it
abbrev third : List ℕ
third = 3 ∷ 2 ∷ 1 ∷ 1 ∷ 1 ∷ 2 ∷ 1 ∷ []

abbrev fourth : List ℕ
fourth = 3 ∷ 1 ∷ 3 ∷ 1 ∷ 1 ∷ 1 ∷ []

abbrev fifth : List ℕ
fifth = 3 ∷ 1 ∷ 1 ∷ 3 ∷ 2 ∷ 1 ∷ []

abbrev sixth : List ℕ
sixth = 3 ∷ 1 ∷ 1 ∷ 3 ∷ 1 ∷ 1 ∷ []

abbrev seventh : List ℕ
seventh = 3 ∷ 1 ∷ 2 ∷ 1 ∷ 2 ∷ 1 ∷ []

-- so many places, each with a 9
abbrev six : List ℕ
six = 9 ∷ 9 ∷ 9 ∷ 9 ∷ 9 ∷ 9 ∷ []

-- two codes, from the one after the given code on; the places behind them are kept
pub page-of-two : PageReplied (page_of 2 third) (six ++ six ++ (7 ∷ 8 ∷ [])) (page_is 2 12) (fourth ++ fifth ++ (7 ∷ 8 ∷ []))
unfolding page_of
page-of-two = record { reply = refl; output = refl }

-- all that are left, and fewer than wanted where the list ends before; codes of different lengths
pub page-to-the-end :
    PageReplied (page_of 4 third) (six ++ six ++ six ++ six) (page_is 4 24) (fourth ++ fifth ++ sixth ++ seventh)
    × PageReplied (page_of 5 third) (six ++ six ++ six ++ six) (page_is 4 24) (fourth ++ fifth ++ sixth ++ seventh)
    × PageReplied (page_of 1000 fifth) (six ++ six ++ (7 ∷ [])) (page_is 2 12) (sixth ++ seventh ++ (7 ∷ []))
    × PageReplied (page_of 2 (3 ∷ 2 ∷ 1 ∷ 1 ∷ 2 ∷ 1 ∷ 1 ∷ [])) (six ++ six ++ (9 ∷ [])) (page_is 2 13) (third ++ fourth)
unfolding page_of
page-to-the-end = (
  record { reply = refl; output = refl },
  record { reply = refl; output = refl },
  record { reply = refl; output = refl },
  record { reply = refl; output = refl },
)

-- no code is wanted, or none is left: no room is needed, and nothing is written
pub page-of-none :
    PageReplied (page_of 0 third) [] (page_is 0 0) []
    × PageReplied (page_of 0 third) (7 ∷ []) (page_is 0 0) (7 ∷ [])
    × PageReplied (page_of 1000 seventh) [] (page_is 0 0) []
    × PageReplied (page_of 1 (0 ∷ 0 ∷ [])) (7 ∷ []) (page_is 0 0) (7 ∷ [])
unfolding page_of
page-of-none = (
  record { reply = refl; output = refl },
  record { reply = refl; output = refl },
  record { reply = refl; output = refl },
  record { reply = refl; output = refl },
)

-- one byte too few is 8, though the first code fits, and nothing is written
pub page-one-byte-short :
    PageReplied (page_of 2 third) (six ++ (9 ∷ 9 ∷ 9 ∷ 9 ∷ 9 ∷ [])) (page_refused 8) (six ++ (9 ∷ 9 ∷ 9 ∷ 9 ∷ 9 ∷ []))
    × PageReplied (page_of 1 third) (six ++ (9 ∷ [])) (page_is 1 6) (fourth ++ (9 ∷ []))
    × PageReplied (page_of 1 third) [] (page_refused 8) []
unfolding page_of
page-one-byte-short = (
  record { reply = refl; output = refl },
  record { reply = refl; output = refl },
  record { reply = refl; output = refl },
)

-- 10 first of all, then what is wrong with the code, then 8; also where no code is wanted
pub page-checks :
    PageReplied (page_of 1001 []) six (page_refused 10) six
    × PageReplied (page_of 1001 third) [] (page_refused 10) []
    × PageReplied (page_of 1001 seventh) six (page_refused 10) six
    × PageReplied (page_of 1000 []) [] (page_refused 3) []
    × PageReplied (page_of 0 (seventh ++ (1 ∷ []))) six (page_refused 7) six
    × PageReplied (page_of 2 (3 ∷ 1 ∷ 2 ∷ 2 ∷ 1 ∷ 1 ∷ [])) [] (page_refused 6) []
unfolding page_of
page-checks = (
  record { reply = refl; output = refl },
  record { reply = refl; output = refl },
  record { reply = refl; output = refl },
  record { reply = refl; output = refl },
  record { reply = refl; output = refl },
  record { reply = refl; output = refl },
)

-- the two numbers for C, and a refusal in both
pub page-numbers :
    PageReported (page_of 2 third) (six ++ six) (pos 2) (pos 12) (fourth ++ fifth)
    × PageReported (page_of 1001 third) six (neg_ℤ (pos 10)) (neg_ℤ (pos 10)) six
    × PageReported (page_of 2 third) six (neg_ℤ (pos 8)) (neg_ℤ (pos 8)) six
unfolding page_of
page-numbers = (
  record { codes_are = refl; bytes_are = refl; output = refl },
  record { codes_are = refl; bytes_are = refl; output = refl },
  record { codes_are = refl; bytes_are = refl; output = refl },
)

-- what the cases of the running reply say
pub page-answers : (page_answer (Ok (record { codes = 2; bytes = 12 })) ≡ page_is 2 12) × (page_answer (Err Count) ≡ page_refused 1) × (page_answer (Err Wanted) ≡ page_refused 10)
page-answers = (refl, refl, refl)

-- whatever the reply says, the output is as it must be: a page is there, and a refusal has left all as it was
pub page-not-left-out : {a : PageAnswer} {codes bytes : ℤ}
    → (PageReplied (page_of 1 third) six a six → ⊥)
    × (PageReported (page_of 1 third) six codes bytes six → ⊥)
    × (PageReplied (page_of 1001 third) six a fourth → ⊥)
    × (PageReported (page_of 1001 third) six codes bytes fourth → ⊥)
unfolding page_of
page-not-left-out = (
  λ p. let e : ◌≡◌ {A = ℕ} 9 3 = head-eq_of_cons-eq p.output in omega arith,
  λ p. let e : ◌≡◌ {A = ℕ} 9 3 = head-eq_of_cons-eq p.output in omega arith,
  λ p. let e : ◌≡◌ {A = ℕ} 3 9 = head-eq_of_cons-eq p.output in omega arith,
  λ p. let e : ◌≡◌ {A = ℕ} 3 9 = head-eq_of_cons-eq p.output in omega arith,
)
