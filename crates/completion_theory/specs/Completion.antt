-- Sheets on which each arrow is known within a span, and the tables that they leave open [document 02, paper 12: half-filled sheets]. No promise cites these definitions yet;
-- with the paper they move to patterns.
use Rattle.std.specs.Prelude.{Bool, cond, ◌&&◌, List, [], ℕ, leb, ltb, eqb, length, get_or}
use Rattle.lists.specs.Order.{same}
use Rattle.lists.specs.Select.{keep, each, range}
use Rattle.patterns.specs.System.{System, compare_system}
use Rattle.patterns.specs.Table.{image, system_of_table}
use Rattle.patterns.specs.Isomorphism.{tables}

-- the lowest and the highest image of point x
abbrev pub lowest : List (List ℕ) → ℕ → ℕ
lowest spans x = get_or (get_or spans x []) 0 0

abbrev pub highest : List (List ℕ) → ℕ → ℕ
highest spans x = get_or (get_or spans x []) 1 0

-- the pair of x is in rising or equal order and below the count, or 0 and 0 past it
abbrev pub is_span : ℕ → List (List ℕ) → ℕ → Bool
is_span n spans x =
    cond (ltb x n) (leb (lowest spans x) (highest spans x) && ltb (highest spans x) n) (eqb (lowest spans x) 0 && eqb (highest spans x) 0)

-- "a sheet is eight pairs of numbers, lowest and highest image"
abbrev pub is_sheet : ℕ → List (List ℕ) → Bool
is_sheet n spans = each (is_span n spans) (range 0 8)

-- point x may go to y
abbrev pub in_span : List (List ℕ) → ℕ → ℕ → Bool
in_span spans x y = leb (lowest spans x) y && leb y (highest spans x)

-- each point of a table goes where it may
abbrev pub within_spans : List (List ℕ) → List ℕ → Bool
within_spans spans f = each (λ x. in_span spans x (image f x)) (range 0 (length f))

-- the tables of n points within all spans that have this system, in lexicographic order
unfoldable pub completions : ℕ → List (List ℕ) → System → List (List ℕ)
unfolding system_of_table compare_system
completions n spans S = keep (λ f. within_spans spans f && same compare_system (system_of_table f) S) (tables n n)
