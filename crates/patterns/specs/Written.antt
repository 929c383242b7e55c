-- The written code: document 01, "The written code".
use Rattle.std.specs.Prelude.{cond, List, [], ◌∷◌, ℕ, zero, suc, ◌+◌, ◌/◌, ◌%◌, ltb, length}
use Rattle.lists.specs.Select.{gather}
use Rattle.patterns.specs.Component.{Component, flat}
use Rattle.patterns.specs.System.{System, weight}

-- the number of trees, then their codes
abbrev pub component_numbers : Component → List ℕ
component_numbers c = length c ∷ flat c

-- the number of points, the number of components, then each component
abbrev pub numbers : System → List ℕ
numbers S = weight S ∷ length S ∷ gather component_numbers S

-- one byte below 128, else the low seven bits plus 128, then the rest
abbrev pub write_number : ℕ → List ℕ
write_number x = cond (ltb x 128) (x ∷ []) ((x % 128 + 128) ∷ x / 128 ∷ [])

abbrev pub bytes : List ℕ → List ℕ
bytes xs = gather write_number xs

unfoldable pub written : System → List ℕ
written S = bytes (numbers S)

-- where the bytes of the component at position i begin and end, if the first begins at `at`; past the last component nothing stands
abbrev pub stretch_from : ℕ → System → ℕ → ℕ × ℕ
stretch_from at [] i = (at, at)
stretch_from at (c ∷ S) zero = (at, at + length (bytes (component_numbers c)))
stretch_from at (c ∷ S) (suc i) = stretch_from (at + length (bytes (component_numbers c))) S i

-- the same in the written code
unfoldable pub stretch_of : System → ℕ → ℕ × ℕ
stretch_of S i = stretch_from (length (bytes (weight S ∷ length S ∷ []))) S i
