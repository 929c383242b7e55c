-- What the listing program writes for each input, byte for byte: document 01, the last paragraph of "Sheet of examples" and the text that follows it.
use Rattle.std.specs.Prelude.{List, [], ◌∷◌, ◌++◌}
use Prim.Native.Nat.{ℕ, suc, compare}
use Rattle.lists.specs.Order.{same, lex}
use Rattle.lists.specs.Select.{keep, gather, range}
use Rattle.patterns.specs.System.{System, codes}
use Rattle.patterns.specs.Written.{numbers}
use Rattle.patterns.specs.Decimal.{decimal}

-- "a header with n": `n N` and a newline
unfoldable pub header : ℕ → List ℕ
unfolding decimal
header n = 110 ∷ 32 ∷ (decimal n ++ (10 ∷ []))

-- a number after a space
unfoldable pub spaced : ℕ → List ℕ
unfolding decimal
spaced x = 32 ∷ decimal x

-- "then position and the code's numbers": `P: X Y ..` and a newline
unfoldable pub code_line : ℕ → List ℕ → List ℕ
unfolding decimal spaced
code_line p xs = decimal p ++ (58 ∷ (gather spaced xs ++ (10 ∷ [])))

-- "The total line always ends in `codes`": `P codes` and a newline
unfoldable pub total_line : ℕ → List ℕ
unfolding decimal
total_line p = decimal p ++ (32 ∷ 99 ∷ 111 ∷ 100 ∷ 101 ∷ 115 ∷ 10 ∷ [])

-- what is written after p lines: a line for each of these systems, then the total; "Positions start at 1"
unfoldable pub lines_after : ℕ → List System → List ℕ
unfolding code_line total_line
lines_after p [] = total_line p
lines_after p (S ∷ r) = code_line (suc p) (numbers S) ++ lines_after (suc p) r

-- the text for n points
unfoldable pub listing_text : ℕ → List ℕ
unfolding header lines_after codes
listing_text n = header n ++ lines_after 0 (codes n)

-- "other input writes the line `bad count`"
abbrev pub bad_count : List ℕ
bad_count = 98 ∷ 97 ∷ 100 ∷ 32 ∷ 99 ∷ 111 ∷ 117 ∷ 110 ∷ 116 ∷ 10 ∷ []

-- "a decimal count .., without leading zeros, and one newline"
unfoldable pub count_line : ℕ → List ℕ
unfolding decimal
count_line n = decimal n ++ (10 ∷ [])

-- "a decimal count from 0 to 14 .., and nothing after it": the counts that the whole input says, one or none
unfoldable pub counts : List ℕ → List ℕ
unfolding count_line
counts input = keep (λ n. same (lex compare) (count_line n) input) (range 0 15)

abbrev pub text_for : List ℕ → List ℕ
text_for [] = bad_count
text_for (n ∷ ns) = listing_text n

-- everything that the program writes when it is given this input
unfoldable pub output_of : List ℕ → List ℕ
unfolding counts listing_text
output_of input = text_for (counts input)
