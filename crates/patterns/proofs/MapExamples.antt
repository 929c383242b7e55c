-- Entry "map of a code", computed: the numbers of the trees in written order are the points.
use mathlib.Core.Path.{◌≡◌, refl}
use mathlib.Core.List.{[], ◌∷◌}
use Rattle.patterns.specs.declared.Refusal.TheVariants.{Truncated, NotCanonical}
use Rattle.patterns.specs.Entry.{gives, fails, map_of_code}

-- no points
pub map-of-no-points : map_of_code (0 ∷ 0 ∷ []) ≡ gives []
unfolding map_of_code
map-of-no-points = refl

-- a branch inside a branch: the tree (6 1 4 1 2 1) has the branches (1) and (4 1 2 1), and the latter (1) and (2 1)
pub map-of-branches : map_of_code (6 ∷ 1 ∷ 1 ∷ 6 ∷ 1 ∷ 4 ∷ 1 ∷ 2 ∷ 1 ∷ []) ≡ gives (0 ∷ 0 ∷ 0 ∷ 2 ∷ 2 ∷ 4 ∷ [])
unfolding map_of_code
map-of-branches = refl

-- a cycle of the trees (1)(2 1)(3 1 1): each root goes to the next, and the last to the first
pub map-of-cycle : map_of_code (6 ∷ 1 ∷ 3 ∷ 1 ∷ 2 ∷ 1 ∷ 3 ∷ 1 ∷ 1 ∷ []) ≡ gives (1 ∷ 3 ∷ 1 ∷ 0 ∷ 3 ∷ 3 ∷ [])
unfolding map_of_code
map-of-cycle = refl

-- two components: (2 1) and then (1)(2 1), whose last root goes to its own first
pub map-of-two-components : map_of_code (5 ∷ 2 ∷ 1 ∷ 2 ∷ 1 ∷ 2 ∷ 1 ∷ 2 ∷ 1 ∷ []) ≡ gives (0 ∷ 0 ∷ 3 ∷ 2 ∷ 3 ∷ [])
unfolding map_of_code
map-of-two-components = refl

-- what is no code has no map
pub map-of-no-code : (map_of_code [] ≡ fails Truncated) × (map_of_code (3 ∷ 1 ∷ 2 ∷ 2 ∷ 1 ∷ 1 ∷ []) ≡ fails NotCanonical)
unfolding map_of_code
map-of-no-code = (refl, refl)
