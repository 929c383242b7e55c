-- Entries "sum" and "product", computed: the tables and systems of small maps, the order of the checks, 11 and 8.
use mathlib.Core.Path.{◌≡◌, refl}
use mathlib.Core.List.{List, [], ◌∷◌, ◌++◌}
use Prim.Native.Nat.{ℕ, ◌≤◌, ◌<◌, ◌-◌}
use lib.ListN.{length, replicate}
use borrow.Author.Tests.{lt-ltb, le-ltb}
use lib.IntN.{pos, neg_ℤ}
use Rattle.patterns.specs.declared.Refusal.TheVariants.{TooLarge}
use Rattle.patterns.specs.Tree.{point, merge}
use Rattle.patterns.specs.Written.{written}
use Rattle.patterns.specs.Table.{system_of_table}
use Rattle.patterns.specs.Replies.{length_is, refused}
use Rattle.patterns.specs.Entry.{gives, fails, Replied}
use Rattle.patterns.specs.SignedReplies.{Reported}
use Rattle.patterns.specs.Arithmetic.{sum_table, product_table, sum_of, product_of, empty_system, fixed_point, code_of_result, sum_of_codes, product_of_codes}

-- a cycle of two points and one of three: the second three stand behind the first two; the pairs (0, 0), (0, 1), (0, 2), (1, 0), .. are the points 0, 1, 2, 3, ..
pub tables-of-two :
    (sum_table (1 ∷ 0 ∷ []) (1 ∷ 2 ∷ 0 ∷ []) ≡ 1 ∷ 0 ∷ 3 ∷ 4 ∷ 2 ∷ [])
    × (sum_table (1 ∷ 2 ∷ 0 ∷ []) (1 ∷ 0 ∷ []) ≡ 1 ∷ 2 ∷ 0 ∷ 4 ∷ 3 ∷ [])
    × (product_table (1 ∷ 0 ∷ []) (1 ∷ 2 ∷ 0 ∷ []) ≡ 4 ∷ 5 ∷ 3 ∷ 1 ∷ 2 ∷ 0 ∷ [])
    × (product_table (0 ∷ 0 ∷ []) (1 ∷ 2 ∷ 0 ∷ []) ≡ 1 ∷ 2 ∷ 0 ∷ 1 ∷ 2 ∷ 0 ∷ [])
    × (product_table (1 ∷ 2 ∷ 0 ∷ []) [] ≡ [])
    × (product_table [] (1 ∷ 2 ∷ 0 ∷ []) ≡ [])
tables-of-two = (refl, refl, refl, refl, refl, refl)

-- fixed points and cycles of two points side by side, and a cycle of two points with itself
pub systems-of-two :
    (sum_of fixed_point fixed_point ≡ (point ∷ []) ∷ (point ∷ []) ∷ [])
    × (sum_of ((point ∷ point ∷ []) ∷ []) fixed_point ≡ (point ∷ []) ∷ (point ∷ point ∷ []) ∷ [])
    × (product_of ((point ∷ point ∷ []) ∷ []) ((point ∷ point ∷ []) ∷ []) ≡ (point ∷ point ∷ []) ∷ (point ∷ point ∷ []) ∷ [])
    × (product_of ((merge point point ∷ []) ∷ []) fixed_point ≡ (merge point point ∷ []) ∷ [])
    × (product_of empty_system fixed_point ≡ [])
unfolding sum_of product_of
systems-of-two = (refl, refl, refl, refl, refl)

-- the codes of the neutral systems
pub neutral-codes : (written empty_system ≡ 0 ∷ 0 ∷ []) × (written fixed_point ≡ 1 ∷ 1 ∷ 1 ∷ 1 ∷ [])
unfolding written
neutral-codes = (refl, refl)

-- Codes of small systems: cycles of two and three points; a fixed point at which one point hangs; a path of three points to a fixed point.
abbrev two_cycle : List ℕ
two_cycle = 2 ∷ 1 ∷ 2 ∷ 1 ∷ 1 ∷ []

abbrev three_cycle : List ℕ
three_cycle = 3 ∷ 1 ∷ 3 ∷ 1 ∷ 1 ∷ 1 ∷ []

abbrev leaf : List ℕ
leaf = 2 ∷ 1 ∷ 1 ∷ 2 ∷ 1 ∷ []

abbrev path : List ℕ
path = 3 ∷ 1 ∷ 1 ∷ 3 ∷ 2 ∷ 1 ∷ []

abbrev empty : List ℕ
empty = 0 ∷ 0 ∷ []

-- a point that goes to itself and n − 1 that hang at it, n below 128
abbrev star : ℕ → List ℕ
star n = n ∷ 1 ∷ 1 ∷ n ∷ replicate (n - 1) 1

pub sums :
    (sum_of_codes two_cycle path ≡ gives (5 ∷ 2 ∷ 2 ∷ 1 ∷ 1 ∷ 1 ∷ 3 ∷ 2 ∷ 1 ∷ []))
    × (sum_of_codes path two_cycle ≡ gives (5 ∷ 2 ∷ 2 ∷ 1 ∷ 1 ∷ 1 ∷ 3 ∷ 2 ∷ 1 ∷ []))
    × (sum_of_codes leaf empty ≡ gives leaf)
    × (sum_of_codes empty leaf ≡ gives leaf)
    × (sum_of_codes empty empty ≡ gives empty)
unfolding sum_of_codes
sums = (refl, refl, refl, refl, refl)

pub products :
    (product_of_codes two_cycle three_cycle ≡ gives (6 ∷ 1 ∷ 6 ∷ 1 ∷ 1 ∷ 1 ∷ 1 ∷ 1 ∷ 1 ∷ []))
    × (product_of_codes two_cycle two_cycle ≡ gives (4 ∷ 2 ∷ 2 ∷ 1 ∷ 1 ∷ 2 ∷ 1 ∷ 1 ∷ []))
    × (product_of_codes leaf leaf ≡ gives (4 ∷ 1 ∷ 1 ∷ 4 ∷ 1 ∷ 1 ∷ 1 ∷ []))
    × (product_of_codes path two_cycle ≡ gives (6 ∷ 1 ∷ 2 ∷ 3 ∷ 2 ∷ 1 ∷ 3 ∷ 2 ∷ 1 ∷ []))
    × (product_of_codes two_cycle path ≡ gives (6 ∷ 1 ∷ 2 ∷ 3 ∷ 2 ∷ 1 ∷ 3 ∷ 2 ∷ 1 ∷ []))
    × (product_of_codes path (1 ∷ 1 ∷ 1 ∷ 1 ∷ []) ≡ gives path)
    × (product_of_codes path empty ≡ gives empty)
    × (product_of_codes empty path ≡ gives empty)
unfolding product_of_codes
products = (refl, refl, refl, refl, refl, refl, refl, refl)

-- 11 is said of more than 200 points, and of no fewer
pub two-hundred-points : (h : List ℕ) → length h ≤ 200 → code_of_result h ≡ gives (written (system_of_table h))
unfolding code_of_result
two-hundred-points h k = rw (le-ltb 200 (length h) k)

pub more-points : (h : List ℕ) → 200 < length h → code_of_result h ≡ fails TooLarge
unfolding code_of_result
more-points h k = rw (lt-ltb 200 (length h) k)

-- a result above 200 points: 11, whatever the room is
pub too_large :
    Replied (sum_of_codes (star 100) (star 101)) [] (refused 11) []
    × Replied (product_of_codes (star 15) (star 14)) (7 ∷ []) (refused 11) (7 ∷ [])
    × Replied (product_of_codes (star 101) two_cycle) (7 ∷ []) (refused 11) (7 ∷ [])
unfolding sum_of_codes product_of_codes
too_large = (record { reply = refl; output = refl }, record { reply = refl; output = refl }, record { reply = refl; output = refl })

-- The first code is looked at before the second, the second before the points of the result, and these before the room: a code that is not canonical, 6; one that
-- ends too early, 3; one with a byte too many, 7.
abbrev unordered : List ℕ
unordered = 3 ∷ 1 ∷ 2 ∷ 2 ∷ 1 ∷ 1 ∷ []

pub checks-in-order :
    Replied (sum_of_codes unordered []) (7 ∷ []) (refused 6) (7 ∷ [])
    × Replied (sum_of_codes [] unordered) (7 ∷ []) (refused 3) (7 ∷ [])
    × Replied (product_of_codes unordered []) (7 ∷ []) (refused 6) (7 ∷ [])
    × Replied (product_of_codes empty unordered) (7 ∷ []) (refused 6) (7 ∷ [])
    × Replied (sum_of_codes (star 101) (star 101 ++ (1 ∷ []))) (7 ∷ []) (refused 7) (7 ∷ [])
    × Replied (product_of_codes (star 15) (star 15 ++ (1 ∷ []))) (7 ∷ []) (refused 7) (7 ∷ [])
    × Replied (sum_of_codes leaf (star 15 ++ (1 ∷ []))) [] (refused 7) []
    × Replied (sum_of_codes two_cycle two_cycle) (7 ∷ 7 ∷ 7 ∷ 7 ∷ 7 ∷ 7 ∷ 7 ∷ []) (refused 8) (7 ∷ 7 ∷ 7 ∷ 7 ∷ 7 ∷ 7 ∷ 7 ∷ [])
    × Replied (product_of_codes leaf two_cycle) (7 ∷ 7 ∷ 7 ∷ 7 ∷ 7 ∷ 7 ∷ []) (refused 8) (7 ∷ 7 ∷ 7 ∷ 7 ∷ 7 ∷ 7 ∷ [])
unfolding sum_of_codes product_of_codes
checks-in-order = (
  record { reply = refl; output = refl },
  record { reply = refl; output = refl },
  record { reply = refl; output = refl },
  record { reply = refl; output = refl },
  record { reply = refl; output = refl },
  record { reply = refl; output = refl },
  record { reply = refl; output = refl },
  record { reply = refl; output = refl },
  record { reply = refl; output = refl },
)

-- the length and the bytes, the places behind them kept; the number for C
pub results-written :
    Replied (product_of_codes leaf two_cycle) (9 ∷ 9 ∷ 9 ∷ 9 ∷ 9 ∷ 9 ∷ 9 ∷ 9 ∷ []) (length_is 7) (4 ∷ 1 ∷ 2 ∷ 2 ∷ 1 ∷ 2 ∷ 1 ∷ 9 ∷ [])
    × Replied (sum_of_codes two_cycle two_cycle) (9 ∷ 9 ∷ 9 ∷ 9 ∷ 9 ∷ 9 ∷ 9 ∷ 9 ∷ []) (length_is 8) (4 ∷ 2 ∷ 2 ∷ 1 ∷ 1 ∷ 2 ∷ 1 ∷ 1 ∷ [])
    × Reported (product_of_codes leaf two_cycle) (9 ∷ 9 ∷ 9 ∷ 9 ∷ 9 ∷ 9 ∷ 9 ∷ []) (pos 7) (4 ∷ 1 ∷ 2 ∷ 2 ∷ 1 ∷ 2 ∷ 1 ∷ [])
    × Reported (product_of_codes (star 15) (star 14)) (9 ∷ []) (neg_ℤ (pos 11)) (9 ∷ [])
unfolding sum_of_codes product_of_codes
results-written = (
  record { reply = refl; output = refl },
  record { reply = refl; output = refl },
  record { number = refl; output = refl },
  record { number = refl; output = refl },
)
