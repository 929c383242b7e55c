-- Entry "one back", computed in the list of 3 points, which has seven codes.
use Rattle.std.specs.Prelude.{Some, None, Ok, Err}
use mathlib.Core.Path.{◌≡◌, refl}
use mathlib.Core.List.{List, [], ◌∷◌, ◌++◌, head-eq_of_cons-eq}
use Prim.Native.Nat.{ℕ}
use native.Mathlib.Omega.{arith}
use lib.IntN.{ℤ, pos, neg_ℤ}
use Rattle.patterns.specs.declared.Refusal.TheVariants.{Count, NotCanonical}
use Rattle.patterns.specs.Replies.{Answer, length_is, first_of_list, refused, predecessor_answer}
use Rattle.patterns.specs.Entry.{Replied}
use Rattle.patterns.specs.Predecessor.{predecessor_of}
use Rattle.patterns.specs.SignedReplies.{Reported}

-- the first three codes of the list, and the last two
abbrev first_code : List ℕ
first_code = 3 ∷ 3 ∷ 1 ∷ 1 ∷ 1 ∷ 1 ∷ 1 ∷ 1 ∷ []

abbrev second_code : List ℕ
second_code = 3 ∷ 2 ∷ 1 ∷ 1 ∷ 2 ∷ 1 ∷ 1 ∷ []

abbrev third_code : List ℕ
third_code = 3 ∷ 2 ∷ 1 ∷ 1 ∷ 1 ∷ 2 ∷ 1 ∷ []

abbrev fourth_code : List ℕ
fourth_code = 3 ∷ 1 ∷ 3 ∷ 1 ∷ 1 ∷ 1 ∷ []

abbrev sixth_code : List ℕ
sixth_code = 3 ∷ 1 ∷ 1 ∷ 3 ∷ 1 ∷ 1 ∷ []

abbrev seventh_code : List ℕ
seventh_code = 3 ∷ 1 ∷ 2 ∷ 1 ∷ 2 ∷ 1 ∷ []

-- so many places, each with a 9
abbrev six : List ℕ
six = 9 ∷ 9 ∷ 9 ∷ 9 ∷ 9 ∷ 9 ∷ []

-- the code before: another component of the same size, the last of its sizes, and other sizes; the places behind it are kept
pub one-back :
    Replied (predecessor_of seventh_code) (six ++ (7 ∷ [])) (length_is 6) (sixth_code ++ (7 ∷ []))
    × Replied (predecessor_of third_code) (six ++ (9 ∷ [])) (length_is 7) second_code
    × Replied (predecessor_of fourth_code) (six ++ (9 ∷ 7 ∷ 8 ∷ [])) (length_is 7) (third_code ++ (7 ∷ 8 ∷ []))
    × Replied (predecessor_of second_code) (six ++ (9 ∷ 9 ∷ [])) (length_is 8) first_code
unfolding predecessor_of
one-back = (
  record { reply = refl; output = refl },
  record { reply = refl; output = refl },
  record { reply = refl; output = refl },
  record { reply = refl; output = refl },
)

-- "first" for the first code of a count, whatever the room is, and nothing is written
pub nothing-before :
    Replied (predecessor_of first_code) [] first_of_list []
    × Replied (predecessor_of first_code) (six ++ six) first_of_list (six ++ six)
    × Replied (predecessor_of (0 ∷ 0 ∷ [])) (7 ∷ []) first_of_list (7 ∷ [])
    × Replied (predecessor_of (1 ∷ 1 ∷ 1 ∷ 1 ∷ [])) six first_of_list six
unfolding predecessor_of
nothing-before = (
  record { reply = refl; output = refl },
  record { reply = refl; output = refl },
  record { reply = refl; output = refl },
  record { reply = refl; output = refl },
)

-- what is wrong with the code is told before "first" and before 8, and one byte too few is 8
pub back-checks :
    Replied (predecessor_of []) six (refused 3) six
    × Replied (predecessor_of (first_code ++ (1 ∷ []))) [] (refused 7) []
    × Replied (predecessor_of (3 ∷ 1 ∷ 2 ∷ 2 ∷ 1 ∷ 1 ∷ [])) [] (refused 6) []
    × Replied (predecessor_of seventh_code) (9 ∷ 9 ∷ 9 ∷ 9 ∷ 9 ∷ []) (refused 8) (9 ∷ 9 ∷ 9 ∷ 9 ∷ 9 ∷ [])
    × Replied (predecessor_of third_code) six (refused 8) six
unfolding predecessor_of
back-checks = (
  record { reply = refl; output = refl },
  record { reply = refl; output = refl },
  record { reply = refl; output = refl },
  record { reply = refl; output = refl },
  record { reply = refl; output = refl },
)

-- the number for C: "first" is −102
pub back-numbers :
    Reported (predecessor_of seventh_code) six (pos 6) sixth_code
    × Reported (predecessor_of first_code) six (neg_ℤ (pos 102)) six
    × Reported (predecessor_of seventh_code) [] (neg_ℤ (pos 8)) []
unfolding predecessor_of
back-numbers = (record { number = refl; output = refl }, record { number = refl; output = refl }, record { number = refl; output = refl })

-- what the cases of the running reply say
pub back-answers : (predecessor_answer (Ok (Some 6)) ≡ length_is 6) × (predecessor_answer (Ok None) ≡ first_of_list) × (predecessor_answer (Err Count) ≡ refused 1)
    × (predecessor_answer (Err NotCanonical) ≡ refused 6)
back-answers = (refl, refl, refl, refl)

-- whatever the reply says, the output is as it must be: a code is there, and "first" has left all as it was
pub back-not-left-out : {a : Answer} {n : ℤ}
    → (Replied (predecessor_of seventh_code) six a six → ⊥)
    × (Reported (predecessor_of seventh_code) six n six → ⊥)
    × (Replied (predecessor_of first_code) six a seventh_code → ⊥)
    × (Reported (predecessor_of first_code) six n seventh_code → ⊥)
unfolding predecessor_of
back-not-left-out = (
  λ p. let e : ◌≡◌ {A = ℕ} 9 3 = head-eq_of_cons-eq p.output in omega arith,
  λ p. let e : ◌≡◌ {A = ℕ} 9 3 = head-eq_of_cons-eq p.output in omega arith,
  λ p. let e : ◌≡◌ {A = ℕ} 3 9 = head-eq_of_cons-eq p.output in omega arith,
  λ p. let e : ◌≡◌ {A = ℕ} 3 9 = head-eq_of_cons-eq p.output in omega arith,
)
