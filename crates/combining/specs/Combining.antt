-- One table made of two: how many points it has, which table it is, and what is asked of the two and of the output.
use Rattle.std.specs.Prelude.{◌≡◌, true, List, ℕ, ◌+◌, ◌*◌, ◌≤◌, ◌<◌, length, get_or}
use Rattle.patterns.specs.Table.{is_table}
use Rattle.patterns.specs.Arithmetic.{sum_table, product_table}
use Rattle.combining.specs.declared.Operation.{Operation}
use Rattle.combining.specs.declared.Operation.TheVariants.{Sum, Product}

abbrev pub points_of : Operation → ℕ → ℕ → ℕ
points_of Sum n m = n + m
points_of Product n m = n * m

abbrev pub table_of : Operation → List ℕ → List ℕ → List ℕ
table_of Sum f g = sum_table f g
table_of Product f g = product_table f g

-- there is room for g from `at` on, and its numbers, so much greater, are bytes
pub record ShiftAsked (shift : ℕ) (g out : List ℕ) (at : ℕ) : Type 0 where
  pub room : at + length g ≤ length out
  pub bytes : (j : ℕ) → j < length g → shift + get_or g j 0 < 256

-- two tables, and an output just as long as the one made of them, of at most 200 points
pub record CombineAsked (operation : Operation) (f g out : List ℕ) : Type 0 where
  pub first : is_table f ≡ true
  pub second : is_table g ≡ true
  pub room : length out ≡ points_of operation (length f) (length g)
  pub small : length out ≤ 200
