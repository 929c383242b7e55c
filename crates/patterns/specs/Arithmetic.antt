-- Entries "sum" and "product" of two codes: document 02, paper 5.
use Rattle.std.specs.Prelude.{cond, List, [], ◌∷◌, ◌++◌, map, ℕ, ◌+◌, ◌*◌, ltb, length}
use Rattle.lists.specs.Select.{gather}
use Rattle.patterns.specs.declared.Refusal.TheVariants.{TooLarge}
use Rattle.patterns.specs.Tree.{point}
use Rattle.patterns.specs.System.{System}
use Rattle.patterns.specs.Written.{written}
use Rattle.patterns.specs.Reading.{accepted}
use Rattle.patterns.specs.Table.{system_of_table}
use Rattle.patterns.specs.MapOf.{map_of}
use Rattle.patterns.specs.Entry.{Outcome, gives, fails, outcome}

-- "both systems side by side": the points of the second map come after those of the first
abbrev pub sum_table : List ℕ → List ℕ → List ℕ
sum_table f g = f ++ map (λ y. length f + y) g

-- "the system whose points are pairs, each half moving by its own map": the pair of x and y is the point x * m + y, where the second map has m points
abbrev pub product_table : List ℕ → List ℕ → List ℕ
product_table f g = gather (λ x. map (λ y. x * length g + y) g) f

-- the sum and the product of two systems: that of their maps
unfoldable pub sum_of : System → System → System
unfolding map_of system_of_table
sum_of S T = system_of_table (sum_table (map_of S) (map_of T))

unfoldable pub product_of : System → System → System
unfolding map_of system_of_table
product_of S T = system_of_table (product_table (map_of S) (map_of T))

-- "the empty system" and "the single fixed point"
abbrev pub empty_system : System
empty_system = []

abbrev pub fixed_point : System
fixed_point = (point ∷ []) ∷ []

-- the code of a map that was made of two: 11 above 200 points
unfoldable pub code_of_result : List ℕ → Outcome ℕ
unfolding system_of_table written
code_of_result h =
    let code = gives (written (system_of_table h)) in
    cond (ltb 200 (length h)) (fails TooLarge) code

-- what is found of two codes, where op makes one map of two: "Checks run over the first code, then the second, then a result above 200 points is refused with 11"
abbrev pub combined : (List ℕ → List ℕ → List ℕ) → List ℕ → List ℕ → Outcome ℕ
combined op a b = outcome (accepted a) (λ S. outcome (accepted b) (λ T. code_of_result (op (map_of S) (map_of T))))

unfoldable pub sum_of_codes : List ℕ → List ℕ → Outcome ℕ
unfolding accepted map_of code_of_result
sum_of_codes a b = combined sum_table a b

unfoldable pub product_of_codes : List ℕ → List ℕ → Outcome ℕ
unfolding accepted map_of code_of_result
product_of_codes a b = combined product_table a b
