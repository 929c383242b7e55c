-- Systems, that is, functional digraphs, and the list of all their codes: document 004, Definition 14, Lemma 16 and Theorem 19;
-- document 000, Definition 2; document 01, "Order of the whole list".
use Rattle.std.specs.Prelude.{Bool, true, cond, ◌&&◌, ◌||◌, List, [], ◌∷◌, map, leb, eqb}
use Prim.Native.Nat.{ℕ, zero, suc, ◌+◌, ◌-◌, Ordering, compare}
use Rattle.lists.specs.Order.{then, at_most, lex}
use Rattle.lists.specs.Select.{keep, gather, total, range, place, from}
use Rattle.patterns.specs.Component.{Component, points, compare_component, valid_component}
use Rattle.patterns.specs.Generation.{generation}

-- its components, in order
abbrev pub System : Type 0
System = List Component

-- the number of points
abbrev pub weight : System → ℕ
weight S = total points S

-- the place of c among the components of as many points, in generation order
unfoldable pub generation_place : Component → ℕ
unfolding generation compare_component
generation_place c = place compare_component c (generation (points c))

-- Definition 14: by number of points, and among equal numbers by generation order
unfoldable pub compare_generated : Component → Component → Ordering
unfolding generation_place
compare_generated c d =
    let places = compare (generation_place c) (generation_place d) in
    then (compare (points c) (points d)) places

-- every component is valid, and none comes before its left neighbour, where p stands to the left of all
unfoldable pub is_in_order : Component → System → Bool
unfolding valid_component compare_generated
is_in_order p [] = true
is_in_order p (c ∷ S) =
    let placed = at_most compare_generated p c in
    let later = is_in_order c S in
    valid_component c && placed && later

-- Definition 14: S is the code of a functional digraph
unfoldable pub canonical : System → Bool
unfolding is_in_order
canonical S = is_in_order [] S

-- the numbers that a nondecreasing list with sum n can begin with, from a on: what is left is nothing, or not less than b
unfoldable pub first_sizes : ℕ → ℕ → List ℕ
first_sizes a n = keep (λ b. eqb b n || leb (b + b) n) (range a (suc n - a))

-- document 000, Definitions 1 and 2: the nondecreasing lists of numbers from a on with sum n, of at most k numbers, in lexicographic order
unfoldable pub size_lists : ℕ → ℕ → ℕ → List (List ℕ)
unfolding first_sizes
size_lists zero a n = cond (eqb n 0) ([] ∷ []) []
size_lists (suc k) a n =
    let longer = gather (λ b. map (b ∷◌) (size_lists k b (n - b))) (first_sizes a n) in
    cond (eqb n 0) ([] ∷ []) longer

-- the components of s points that may stand to the right of p, in generation order: p again where it has s points, and what comes later
unfoldable pub available : Component → ℕ → List Component
unfolding generation compare_component
available p s =
    let rest = from compare_component p (generation s) in
    cond (eqb (points p) s) rest (generation s)

-- Lemma 16: the systems with these component sizes, to the right of p; the rightmost component moves fastest
unfoldable pub systems : Component → List ℕ → List System
unfolding available
systems p [] = [] ∷ []
systems p (s ∷ sizes) = gather (λ c. map (c ∷◌) (systems c sizes)) (available p s)

-- The list of all codes of n points, first to last.
unfoldable pub codes : ℕ → List System
unfolding systems size_lists
codes n = gather (systems []) (size_lists n 1 n)

-- document 01, "Order of the whole list": by the size lists, then component by component in generation order
unfoldable pub compare_codes : System → System → Ordering
unfolding compare_generated
compare_codes S R =
    let components = lex compare_generated S R in
    then (lex compare (map points S) (map points R)) components

-- tells equal systems from different ones
unfoldable pub compare_system : System → System → Ordering
unfolding compare_component
compare_system S R = lex compare_component S R
