-- Sheets, completions and searches, computed. Pairs that a list of spans leaves out are read as 0 and 0.
use mathlib.Core.Path.{◌≡◌, refl}
use mathlib.Core.Bool.{true, false}
use mathlib.Core.List.{List, [], ◌∷◌, ◌++◌, map}
use mathlib.Core.Option.{Option, none, some}
use Prim.Native.Nat.{ℕ}
use lib.ListN.{length, replicate}
use Rattle.lists.specs.Select.{first, range}
use Rattle.patterns.specs.Table.{system_of_table}
use Rattle.patterns.specs.MapOf.{map_of}
use Rattle.completion_theory.specs.Completion.{is_sheet, completions}
use Rattle.completion_theory.specs.Arrangement.{searched}

-- k points with the images 0 to high
abbrev free : ℕ → ℕ → List (List ℕ)
free k high = replicate k (0 ∷ high ∷ [])

-- points with one image each
abbrev fixed : List ℕ → List (List ℕ)
fixed f = map (λ y. y ∷ y ∷ []) f

sheets-of-none : map (is_sheet 0) ([] ∷ free 8 0 ∷ free 1 1 ∷ []) ≡ true ∷ true ∷ false ∷ []
sheets-of-none = refl

sheets-of-three : map (is_sheet 3) (free 3 2 ∷ fixed (1 ∷ 2 ∷ 0 ∷ []) ∷ (free 3 2 ++ free 5 0) ∷ []) ≡ true ∷ true ∷ true ∷ []
sheets-of-three = refl

-- pairs that reach the count, a falling pair, and past the count a falling pair and two rising ones, the second at the last place
no-sheets-of-three :
    map (is_sheet 3) (
    free 3 3 ∷ ((1 ∷ 0 ∷ []) ∷ free 2 2) ∷ (free 3 2 ++ ((1 ∷ 0 ∷ []) ∷ [])) ∷ (free 3 2 ++ free 1 1) ∷ (free 3 2 ++ (free 4 0 ++ free 1 1)) ∷ []
    ) ≡ replicate 5 false
no-sheets-of-three = refl

completions-of-three :
    map (λ f. completions 3 ((1 ∷ 2 ∷ []) ∷ free 2 2) (system_of_table f)) ((1 ∷ 2 ∷ 0 ∷ []) ∷ (0 ∷ 0 ∷ 0 ∷ []) ∷ (0 ∷ 1 ∷ 2 ∷ []) ∷ [])
    ≡ ((1 ∷ 2 ∷ 0 ∷ []) ∷ (2 ∷ 0 ∷ 1 ∷ []) ∷ []) ∷ ((1 ∷ 1 ∷ 1 ∷ []) ∷ (2 ∷ 2 ∷ 2 ∷ []) ∷ []) ∷ [] ∷ []
unfolding completions
completions-of-three = refl

-- a sheet, a table that has the system, and the first table with it
record Case : Type 0 where
  spans : List (List ℕ)
  table : List ℕ
  answer : Option (List ℕ)

abbrev case : List (List ℕ) → List ℕ → Option (List ℕ) → Case
case s f a = record { spans = s; table = f; answer = a }

abbrev small : List Case
small =
    case [] [] (some [])
    ∷ case (free 2 1) (1 ∷ 1 ∷ []) (some (0 ∷ 0 ∷ []))
    ∷ case (fixed (1 ∷ 1 ∷ [])) (0 ∷ 0 ∷ []) (some (1 ∷ 1 ∷ []))
    ∷ case (fixed (0 ∷ 1 ∷ [])) (1 ∷ 0 ∷ []) none
    ∷ case (free 3 2) (2 ∷ 0 ∷ 1 ∷ []) (some (1 ∷ 2 ∷ 0 ∷ []))
    ∷ case ((1 ∷ 2 ∷ []) ∷ (0 ∷ 2 ∷ []) ∷ (0 ∷ 0 ∷ []) ∷ []) (0 ∷ 0 ∷ 1 ∷ []) (some (1 ∷ 1 ∷ 0 ∷ []))
    ∷ []

first-of-small : map (λ c. first (completions (length c.table) c.spans (system_of_table c.table))) small ≡ map (λ c. c.answer) small
unfolding completions
first-of-small = refl

search-of-small : map (λ c. searched c.spans (map_of (system_of_table c.table))) small ≡ map (λ c. c.answer) small
unfolding searched map_of system_of_table
search-of-small = refl

-- a cycle of eight points, with spans that leave one table and with spans that leave none
search-of-eight :
    map (λ y. searched (fixed (range 1 7 ++ (y ∷ []))) (map_of (system_of_table (7 ∷ range 0 7)))) (0 ∷ 7 ∷ []) ≡ some (range 1 7 ++ (0 ∷ [])) ∷ none ∷ []
unfolding searched map_of system_of_table
search-of-eight = refl
