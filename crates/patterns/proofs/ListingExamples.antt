-- The text of the listing program against the examples of document 01: the whole listing of 3 points, that of no points, and inputs that are no count.
use mathlib.Core.Path.{◌≡◌, refl}
use mathlib.Core.List.{List, [], ◌∷◌, map}
use Prim.Native.Nat.{ℕ}
use Rattle.lists.specs.Select.{gather}
use Rattle.patterns.specs.ListingText.{output_of, bad_count}

-- the nine lines of document 01
abbrev three : List (List ℕ)
three =
    (110 ∷ 32 ∷ 51 ∷ 10 ∷ []) ∷
    (49 ∷ 58 ∷ 32 ∷ 51 ∷ 32 ∷ 51 ∷ 32 ∷ 49 ∷ 32 ∷ 49 ∷ 32 ∷ 49 ∷ 32 ∷ 49 ∷ 32 ∷ 49 ∷ 32 ∷ 49 ∷ 10 ∷ []) ∷
    (50 ∷ 58 ∷ 32 ∷ 51 ∷ 32 ∷ 50 ∷ 32 ∷ 49 ∷ 32 ∷ 49 ∷ 32 ∷ 50 ∷ 32 ∷ 49 ∷ 32 ∷ 49 ∷ 10 ∷ []) ∷
    (51 ∷ 58 ∷ 32 ∷ 51 ∷ 32 ∷ 50 ∷ 32 ∷ 49 ∷ 32 ∷ 49 ∷ 32 ∷ 49 ∷ 32 ∷ 50 ∷ 32 ∷ 49 ∷ 10 ∷ []) ∷
    (52 ∷ 58 ∷ 32 ∷ 51 ∷ 32 ∷ 49 ∷ 32 ∷ 51 ∷ 32 ∷ 49 ∷ 32 ∷ 49 ∷ 32 ∷ 49 ∷ 10 ∷ []) ∷
    (53 ∷ 58 ∷ 32 ∷ 51 ∷ 32 ∷ 49 ∷ 32 ∷ 49 ∷ 32 ∷ 51 ∷ 32 ∷ 50 ∷ 32 ∷ 49 ∷ 10 ∷ []) ∷
    (54 ∷ 58 ∷ 32 ∷ 51 ∷ 32 ∷ 49 ∷ 32 ∷ 49 ∷ 32 ∷ 51 ∷ 32 ∷ 49 ∷ 32 ∷ 49 ∷ 10 ∷ []) ∷
    (55 ∷ 58 ∷ 32 ∷ 51 ∷ 32 ∷ 49 ∷ 32 ∷ 50 ∷ 32 ∷ 49 ∷ 32 ∷ 50 ∷ 32 ∷ 49 ∷ 10 ∷ []) ∷
    (55 ∷ 32 ∷ 99 ∷ 111 ∷ 100 ∷ 101 ∷ 115 ∷ 10 ∷ []) ∷
    []

-- `3` and a newline
pub listing-of-3 : output_of (51 ∷ 10 ∷ []) ≡ gather (λ l. l) three
unfolding output_of
listing-of-3 = refl

-- "so for `0` it is `1 codes`"
abbrev nought : List (List ℕ)
nought =
    (110 ∷ 32 ∷ 48 ∷ 10 ∷ []) ∷
    (49 ∷ 58 ∷ 32 ∷ 48 ∷ 32 ∷ 48 ∷ 10 ∷ []) ∷
    (49 ∷ 32 ∷ 99 ∷ 111 ∷ 100 ∷ 101 ∷ 115 ∷ 10 ∷ []) ∷
    []

pub listing-of-0 : output_of (48 ∷ 10 ∷ []) ≡ gather (λ l. l) nought
unfolding output_of
listing-of-0 = refl

-- nothing at all, a newline alone, no newline, a second newline, a leading zero, 15, a minus, a carriage return, a second line, a letter, the byte after 9
abbrev faulty : List (List ℕ)
faulty =
    [] ∷
    (10 ∷ []) ∷
    (51 ∷ []) ∷
    (51 ∷ 10 ∷ 10 ∷ []) ∷
    (48 ∷ 51 ∷ 10 ∷ []) ∷
    (49 ∷ 53 ∷ 10 ∷ []) ∷
    (45 ∷ 49 ∷ 10 ∷ []) ∷
    (51 ∷ 13 ∷ 10 ∷ []) ∷
    (49 ∷ 52 ∷ 10 ∷ 53 ∷ []) ∷
    (120 ∷ 10 ∷ []) ∷
    (58 ∷ 10 ∷ []) ∷
    []

pub faulty-bad-count : map output_of faulty ≡ map (λ input. bad_count) faulty
unfolding output_of
faulty-bad-count = refl
