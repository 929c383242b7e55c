-- Entry "round length", computed: the period of some maps, and the order of its checks.
use mathlib.Core.Path.{◌≡◌, refl}
use mathlib.Core.Bool.{true, false}
use mathlib.Core.List.{List, [], ◌∷◌, map}
use Prim.Native.Nat.{ℕ}
use lib.ListN.{replicate}
use Rattle.patterns.specs.Table.{image}
use Rattle.patterns.specs.Reading.{done}
use Rattle.patterns.specs.Replies.{length_is, refused}
use Rattle.patterns.specs.Entry.{answer}
use Rattle.patterns.specs.Period.{brings_back, period_of}

-- cycles of 2 and 3
abbrev two_and_three : List ℕ
two_and_three = 1 ∷ 0 ∷ 3 ∷ 4 ∷ 2 ∷ []

-- document 02, paper 8: "Cycles of 2 and 3 give 6", and "the empty map has 1"
pub period-six : (period_of two_and_three ≡ done 6) × (period_of [] ≡ done 1)
unfolding period_of
period-six = (refl, refl)

-- 6 steps bring every point back, and 12; no fewer do, though 0 would
pub back-after-six : map (brings_back 5 (image two_and_three)) (0 ∷ 1 ∷ 2 ∷ 3 ∷ 4 ∷ 5 ∷ 6 ∷ 12 ∷ []) ≡ true ∷ false ∷ false ∷ false ∷ false ∷ false ∷ true ∷ true ∷ []
unfolding brings_back
back-after-six = refl

-- points on the way to a cycle do not come back, and do not count: two on the way to a fixed point, and one on the way to a cycle of 2
pub periods-with-ways : map period_of ((0 ∷ 0 ∷ 1 ∷ []) ∷ (1 ∷ 0 ∷ 0 ∷ []) ∷ []) ≡ map done (1 ∷ 2 ∷ [])
unfolding period_of
periods-with-ways = refl

-- two cycles of 2, cycles of 2 and 4, where the product of the lengths is not the least; and cycles of 3 and 4
pub periods : map period_of (
    (1 ∷ 0 ∷ 3 ∷ 2 ∷ [])
    ∷ (1 ∷ 0 ∷ 3 ∷ 4 ∷ 5 ∷ 2 ∷ [])
    ∷ (1 ∷ 2 ∷ 0 ∷ 4 ∷ 5 ∷ 6 ∷ 3 ∷ [])
    ∷ [])
    ≡ map done (2 ∷ 4 ∷ 12 ∷ [])
unfolding period_of
periods = refl

-- what the entry answers: a table of 121 points is refused with 13 though a byte is no point, one of 201 points with 1; in a smaller one such a byte is 2
pub period-refusals :
    (answer (period_of (replicate 121 0)) length_is ≡ refused 13)
    × (answer (period_of (replicate 121 200)) length_is ≡ refused 13)
    × (answer (period_of (replicate 200 250)) length_is ≡ refused 13)
    × (answer (period_of (replicate 201 0)) length_is ≡ refused 1)
    × (answer (period_of (replicate 201 250)) length_is ≡ refused 1)
    × (answer (period_of (replicate 120 120)) length_is ≡ refused 2)
    × (answer (period_of (0 ∷ 2 ∷ [])) length_is ≡ refused 2)
    × (answer (period_of two_and_three) length_is ≡ length_is 6)
unfolding period_of
period-refusals = (refl, refl, refl, refl, refl, refl, refl, refl)
