-- Document 01's lists, totals and further examples, computed from the definitions. Trees are given by their codes.
use mathlib.Core.Path.{◌≡◌, refl}
use mathlib.Core.Bool.{true, false}
use mathlib.Core.List.{List, [], ◌∷◌, map}
use Prim.Native.Nat.{Ordering}
use Prim.Native.Nat.{ℕ}
use lib.ListN.{length}
use Rattle.lists.specs.Select.{range}
use Rattle.patterns.specs.Tree.{point, merge, code, compare_tree}
use Rattle.patterns.specs.Component.{Component, least_rotation}
use Rattle.patterns.specs.Generation.{is_child, generation}
use Rattle.patterns.specs.System.{codes}
use Rattle.patterns.specs.Written.{written}
use Rattle.patterns.specs.Reading.{done, cut}
use Rattle.patterns.specs.Table.{image}
use Rattle.patterns.specs.Census.{Row, census_rows, height}
use Rattle.patterns.specs.Period.{period}
use Rattle.patterns.specs.Entry.{accept_of, code_of_map}
use Rattle.patterns.specs.Sheet.{AllHold, table_has_code, refused_with}

-- the codes of the trees of each component
abbrev tree_codes : List Component → List (List (List ℕ))
tree_codes cs = map (map code) cs

-- "Generation order of components with n points", 3 points: (1)(1)(1); (3 2 1); (3 1 1); (1)(2 1)
pub components-of-3 : tree_codes (generation 3) ≡
    ((1 ∷ []) ∷ (1 ∷ []) ∷ (1 ∷ []) ∷ [])
    ∷ ((3 ∷ 2 ∷ 1 ∷ []) ∷ [])
    ∷ ((3 ∷ 1 ∷ 1 ∷ []) ∷ [])
    ∷ ((1 ∷ []) ∷ (2 ∷ 1 ∷ []) ∷ [])
    ∷ []
unfolding generation
components-of-3 = refl

-- 4 points: (1)(1)(1)(1); (2 1)(2 1); (4 1 2 1); (1)(3 2 1); (4 3 2 1); (1)(3 1 1); (4 3 1 1); (4 1 1 1); (1)(1)(2 1)
pub components-of-4 : tree_codes (generation 4) ≡
    ((1 ∷ []) ∷ (1 ∷ []) ∷ (1 ∷ []) ∷ (1 ∷ []) ∷ [])
    ∷ ((2 ∷ 1 ∷ []) ∷ (2 ∷ 1 ∷ []) ∷ [])
    ∷ ((4 ∷ 1 ∷ 2 ∷ 1 ∷ []) ∷ [])
    ∷ ((1 ∷ []) ∷ (3 ∷ 2 ∷ 1 ∷ []) ∷ [])
    ∷ ((4 ∷ 3 ∷ 2 ∷ 1 ∷ []) ∷ [])
    ∷ ((1 ∷ []) ∷ (3 ∷ 1 ∷ 1 ∷ []) ∷ [])
    ∷ ((4 ∷ 3 ∷ 1 ∷ 1 ∷ []) ∷ [])
    ∷ ((4 ∷ 1 ∷ 1 ∷ 1 ∷ []) ∷ [])
    ∷ ((1 ∷ []) ∷ (1 ∷ []) ∷ (2 ∷ 1 ∷ []) ∷ [])
    ∷ []
unfolding generation
components-of-4 = refl

-- the lines of the listing program for 3 points, from 1 to 7
pub codes-of-3 : map written (codes 3) ≡
    (3 ∷ 3 ∷ 1 ∷ 1 ∷ 1 ∷ 1 ∷ 1 ∷ 1 ∷ [])
    ∷ (3 ∷ 2 ∷ 1 ∷ 1 ∷ 2 ∷ 1 ∷ 1 ∷ [])
    ∷ (3 ∷ 2 ∷ 1 ∷ 1 ∷ 1 ∷ 2 ∷ 1 ∷ [])
    ∷ (3 ∷ 1 ∷ 3 ∷ 1 ∷ 1 ∷ 1 ∷ [])
    ∷ (3 ∷ 1 ∷ 1 ∷ 3 ∷ 2 ∷ 1 ∷ [])
    ∷ (3 ∷ 1 ∷ 1 ∷ 3 ∷ 1 ∷ 1 ∷ [])
    ∷ (3 ∷ 1 ∷ 2 ∷ 1 ∷ 2 ∷ 1 ∷ [])
    ∷ []
unfolding codes written
codes-of-3 = refl

-- totals for n = 0 to 8, OEIS A001372
pub totals : map (λ n. length (codes n)) (range 0 9) ≡ 1 ∷ 1 ∷ 3 ∷ 7 ∷ 19 ∷ 47 ∷ 130 ∷ 343 ∷ 951 ∷ []
unfolding codes
totals = refl

-- connected ones for n = 1 to 8, OEIS A002861
pub connected-totals : map (λ n. length (generation n)) (range 1 8) ≡ 1 ∷ 2 ∷ 4 ∷ 9 ∷ 20 ∷ 51 ∷ 125 ∷ 329 ∷ []
unfolding generation
connected-totals = refl

-- "Plausible and false": trees of equal size differ in order, here (3 1 1) from (3 2 1);
pub equal-sizes-differ : compare_tree (merge (merge point point) point) (merge point (merge point point)) ≡ Ordering.lt
unfolding compare_tree
equal-sizes-differ = refl

-- the least rotation of (1)(2 1)(1)(1) is (1)(1)(1)(2 1);
pub later-rotation-is-least : least_rotation (point ∷ merge point point ∷ point ∷ point ∷ []) ≡ point ∷ point ∷ point ∷ merge point point ∷ []
unfolding least_rotation
later-rotation-is-least = refl

-- the valid merge (1)(2 1)(3 2 1) of (1)(2 1)(1)(2 1) is no child of it, but of its parent (1)(1)(1)(3 2 1);
pub merge-under-its-parent : (is_child (point ∷ merge point point ∷ point ∷ merge point point ∷ []) (point ∷ merge point point ∷ merge point (merge point point) ∷ []) ≡ false)
    × (is_child (point ∷ point ∷ point ∷ merge point (merge point point) ∷ []) (point ∷ merge point point ∷ merge point (merge point point) ∷ []) ≡ true)
unfolding is_child
merge-under-its-parent = (refl, refl)

-- the code of a map with components (1)(2 1) and (3 1 1) has (3 1 1) first.
pub generation-order-decides : AllHold (table_has_code (1 ∷ 0 ∷ 1 ∷ 3 ∷ 3 ∷ 3 ∷ []) (6 ∷ 2 ∷ 1 ∷ 3 ∷ 1 ∷ 1 ∷ 2 ∷ 1 ∷ 2 ∷ 1 ∷ []) ∷ [])
unfolding AllHold code_of_map
generation-order-decides = (refl, tt)

-- "Sheet of examples": n = 200 is 200 1 and goes on; alone it is 3. 201 1 is 1.
pub two_bytes : cut (200 ∷ 1 ∷ []) ≡ done (200 ∷ [])
unfolding cut
two_bytes = refl

pub counts : AllHold (refused_with 3 (200 ∷ 1 ∷ []) ∷ refused_with 1 (201 ∷ 1 ∷ []) ∷ [])
unfolding AllHold accept_of
counts = (refl, (refl, tt))

-- The order of checks: all bytes are cut first; a tree is held against all points left of n; 5 comes before 7, and 7 before 6.
pub order-of-checks : AllHold (
    refused_with 3 (1 ∷ 1 ∷ 1 ∷ 1 ∷ 128 ∷ [])
    ∷ refused_with 4 (1 ∷ 1 ∷ 1 ∷ 1 ∷ 129 ∷ 0 ∷ [])
    ∷ refused_with 3 (201 ∷ 1 ∷ 128 ∷ [])
    ∷ refused_with 3 (3 ∷ 1 ∷ 2 ∷ 3 ∷ 1 ∷ 1 ∷ [])
    ∷ refused_with 5 (3 ∷ 1 ∷ 2 ∷ 3 ∷ 1 ∷ 1 ∷ 1 ∷ [])
    ∷ refused_with 5 (2 ∷ 1 ∷ 1 ∷ 1 ∷ 9 ∷ [])
    ∷ refused_with 7 (3 ∷ 1 ∷ 2 ∷ 2 ∷ 1 ∷ 1 ∷ 9 ∷ [])
    ∷ [])
unfolding AllHold accept_of
order-of-checks = (refl, (refl, (refl, (refl, (refl, (refl, (refl, tt)))))))

-- "Census of 1 0 2 2: one cycle of length 1, one of 2; distance 1; round length 2."
abbrev table : ℕ → ℕ
table = image (1 ∷ 0 ∷ 2 ∷ 2 ∷ [])

abbrev rows : List Row
rows = record { cycle_length = 1; cycles = 1 } ∷ record { cycle_length = 2; cycles = 1 } ∷ []

pub census-rows : census_rows 4 table ≡ rows
unfolding census_rows
census-rows = refl

pub census-height : height 4 table ≡ 1
unfolding height
census-height = refl

-- the round length is since document 02, paper 8, the period of the map, an entry of its own
pub census-period : period 4 table ≡ 2
unfolding period
census-period = refl
