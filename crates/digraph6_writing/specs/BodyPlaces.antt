-- What is asked of the places that a part of a line is written into, and the weights of the bits in a byte.
use Rattle.std.specs.Prelude.{◌≡◌, true, List, [], ◌∷◌, ℕ, ◌+◌, ◌≤◌, length, get_or}
use Rattle.patterns.specs.Table.{is_table}
use Rattle.patterns.specs.Digraph6.{size_field, body_length}

-- what the bit at place j of six adds to a byte, the first the most
abbrev pub weight_of : ℕ → ℕ
weight_of j = get_or (32 ∷ 16 ∷ 8 ∷ 4 ∷ 2 ∷ 1 ∷ []) j 0

-- places for & and the size of n points
pub record HeadAsked (n : ℕ) (out : List ℕ) : Type 0 where
  pub small : n ≤ 200
  pub room : length out ≡ 1 + length (size_field n)

-- places for the matrix of the map f
pub record BodyAsked (f body : List ℕ) : Type 0 where
  pub table : is_table f ≡ true
  pub small : length f ≤ 200
  pub room : length body ≡ body_length (length f)
