-- Replies and lent buffers, computed: the numbers of the causes, the cases of a reply, a full buffer, one with a place left, and one a place too short.
use Rattle.std.specs.Prelude.{Some, None, Ok, Err}
use mathlib.Core.Path.{◌≡◌, refl}
use mathlib.Core.List.{List, [], ◌∷◌, map}
use Prim.Native.Nat.{ℕ}
use Rattle.patterns.specs.declared.Refusal.TheVariants.{Count, Image, Truncated, NumberForm, Sizes, NotCanonical, Trailing, Room, Position, Wanted, TooLarge, Uncounted, TooManyPoints, LineForm, OutDegree}
use Rattle.patterns.specs.Replies.{number_of, Answer, length_is, last, first_of_list, lacking, refused, answer_of, successor_answer, isomorphism_answer}
use Rattle.patterns.specs.Entry.{Outcome, gives, ends, begins, lacks, fails, answered, filled}

-- the table of causes
pub causes-numbered :
    map number_of (Count ∷ Image ∷ Truncated ∷ NumberForm ∷ Sizes ∷ NotCanonical ∷ Trailing ∷ Room ∷ Position ∷ Wanted ∷ TooLarge ∷ Uncounted ∷ TooManyPoints ∷ [])
    ≡ 1 ∷ 2 ∷ 3 ∷ 4 ∷ 5 ∷ 6 ∷ 7 ∷ 8 ∷ 9 ∷ 10 ∷ 11 ∷ 12 ∷ 13 ∷ []
causes-numbered = refl

pub line-causes-numbered : map number_of (LineForm ∷ OutDegree ∷ []) ≡ 14 ∷ 15 ∷ []
line-causes-numbered = refl

-- what each case of a running reply says
pub replies-told :
    (answer_of (Ok 5) ≡ length_is 5)
    × (answer_of (Err Image) ≡ refused 2)
    × (successor_answer (Ok (Some 5)) ≡ length_is 5)
    × (successor_answer (Ok None) ≡ last)
    × (successor_answer (Err Sizes) ≡ refused 5)
    × (isomorphism_answer (Ok (Some 5)) ≡ length_is 5)
    × (isomorphism_answer (Ok None) ≡ lacking)
    × (isomorphism_answer (Err Image) ≡ refused 2)
replies-told = (refl, refl, refl, refl, refl, refl, refl, refl)

-- the reply and the buffer afterwards
abbrev on : Outcome ℕ → List ℕ → Answer × List ℕ
on o out = (answered o out, filled o out)

abbrev result : Outcome ℕ
result = gives (1 ∷ 2 ∷ 3 ∷ [])

-- a full buffer; one with a place left, which keeps its byte; one byte too few, which is 8 and keeps all
pub room-for-result :
    (on result (7 ∷ 8 ∷ 9 ∷ []) ≡ (length_is 3, 1 ∷ 2 ∷ 3 ∷ []))
    × (on result (6 ∷ 7 ∷ 8 ∷ 9 ∷ []) ≡ (length_is 3, 1 ∷ 2 ∷ 3 ∷ 9 ∷ []))
    × (on result (8 ∷ 9 ∷ []) ≡ (refused 8, 8 ∷ 9 ∷ []))
room-for-result = (refl, refl, refl)

-- A result of no bytes needs none. Without a result the room is not looked at, and all bytes are kept.
pub no-room-needed :
    (on (gives []) [] ≡ (length_is 0, []))
    × (on ends [] ≡ (last, []))
    × (on ends (9 ∷ []) ≡ (last, 9 ∷ []))
    × (on begins [] ≡ (first_of_list, []))
    × (on begins (9 ∷ []) ≡ (first_of_list, 9 ∷ []))
    × (on lacks [] ≡ (lacking, []))
    × (on lacks (9 ∷ []) ≡ (lacking, 9 ∷ []))
    × (on (fails Image) [] ≡ (refused 2, []))
    × (on (fails Image) (9 ∷ []) ≡ (refused 2, 9 ∷ []))
no-room-needed = (refl, refl, refl, refl, refl, refl, refl, refl, refl)
