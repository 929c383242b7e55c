-- Tables and their codes, computed: the causes 1 and 2, trees along a cycle, branches and components that the table has out of order.
use mathlib.Core.Path.{◌≡◌, refl}
use mathlib.Core.List.{[], ◌∷◌}
use lib.ListN.{replicate}
use Rattle.patterns.specs.declared.Refusal.TheVariants.{Count, Image}
use Rattle.patterns.specs.Reading.{done, fault}
use Rattle.patterns.specs.Table.{image, cycle_from, leaders}
use Rattle.patterns.specs.Entry.{fails, checked_table, code_of_map}
use Rattle.patterns.specs.Sheet.{AllHold, table_has_code}

-- no points, and 200
pub tables-checked :
    (checked_table [] ≡ done []) × (checked_table (1 ∷ 0 ∷ []) ≡ done (1 ∷ 0 ∷ [])) × (checked_table (replicate 200 199) ≡ done (replicate 200 199))
unfolding checked_table
tables-checked = (refl, refl, refl)

-- 1 for the length, 2 for a byte, first or last, that is n or more, and 1 before 2 on a table with both
pub tables-refused :
    (checked_table (replicate 201 0) ≡ fault Count)
    × (checked_table (2 ∷ 0 ∷ []) ≡ fault Image)
    × (checked_table (0 ∷ 0 ∷ 255 ∷ []) ≡ fault Image)
    × (checked_table (replicate 201 255) ≡ fault Count)
unfolding checked_table
tables-refused = (refl, refl, refl, refl)

-- the same of the entry "code of a map"
pub maps-refused :
    (code_of_map (replicate 201 0) ≡ fails Count) × (code_of_map (0 ∷ 2 ∷ []) ≡ fails Image) × (code_of_map (replicate 201 255) ≡ fails Count)
unfolding code_of_map
maps-refused = (refl, refl, refl)

-- A cycle of three with trees of 1, 2 and 3 points, and the same with its arrows turned; it starts at the least tree, wherever the table has that.
pub cycle-direction : AllHold (
    table_has_code (1 ∷ 2 ∷ 0 ∷ 1 ∷ 2 ∷ 2 ∷ []) (6 ∷ 1 ∷ 3 ∷ 1 ∷ 2 ∷ 1 ∷ 3 ∷ 1 ∷ 1 ∷ [])
    ∷ table_has_code (2 ∷ 0 ∷ 1 ∷ 1 ∷ 2 ∷ 2 ∷ []) (6 ∷ 1 ∷ 3 ∷ 1 ∷ 3 ∷ 1 ∷ 1 ∷ 2 ∷ 1 ∷ [])
    ∷ table_has_code (1 ∷ 2 ∷ 0 ∷ 0 ∷ 1 ∷ 1 ∷ []) (6 ∷ 1 ∷ 3 ∷ 1 ∷ 2 ∷ 1 ∷ 3 ∷ 1 ∷ 1 ∷ [])
    ∷ [])
unfolding AllHold code_of_map
cycle-direction = (refl, (refl, (refl, tt)))

-- Branches of 3, 2 and 1 points, in this order in the table; below a branch one of 2 before one of 1; (4 1 1 1) before (3 2 1), which is the lesser.
pub branches-sorted : AllHold (
    table_has_code (0 ∷ 0 ∷ 0 ∷ 0 ∷ 1 ∷ 1 ∷ 2 ∷ []) (7 ∷ 1 ∷ 1 ∷ 7 ∷ 1 ∷ 2 ∷ 1 ∷ 3 ∷ 1 ∷ 1 ∷ [])
    ∷ table_has_code (0 ∷ 0 ∷ 1 ∷ 1 ∷ 2 ∷ []) (5 ∷ 1 ∷ 1 ∷ 5 ∷ 4 ∷ 1 ∷ 2 ∷ 1 ∷ [])
    ∷ table_has_code (0 ∷ 0 ∷ 1 ∷ 1 ∷ 1 ∷ 0 ∷ 5 ∷ 6 ∷ []) (8 ∷ 1 ∷ 1 ∷ 8 ∷ 3 ∷ 2 ∷ 1 ∷ 4 ∷ 1 ∷ 1 ∷ 1 ∷ [])
    ∷ [])
unfolding AllHold code_of_map
branches-sorted = (refl, (refl, (refl, tt)))

-- Components of 2, 1 and 2 points, in this order in the table: the fewer points first, then the cycle before the tree. Components whose least
-- points are on no cycle.
pub components-sorted : AllHold (
    table_has_code (0 ∷ 0 ∷ 2 ∷ 4 ∷ 3 ∷ []) (5 ∷ 3 ∷ 1 ∷ 1 ∷ 2 ∷ 1 ∷ 1 ∷ 1 ∷ 2 ∷ 1 ∷ [])
    ∷ table_has_code (3 ∷ 2 ∷ 2 ∷ 4 ∷ 3 ∷ []) (5 ∷ 2 ∷ 1 ∷ 2 ∷ 1 ∷ 2 ∷ 1 ∷ 2 ∷ 1 ∷ [])
    ∷ [])
unfolding AllHold code_of_map
components-sorted = (refl, (refl, tt))

-- the least points of the cycles, where point 0 is on none, and a cycle from a point on
pub cycles-of-table :
    (leaders 6 (image (3 ∷ 5 ∷ 2 ∷ 4 ∷ 3 ∷ 1 ∷ [])) ≡ 1 ∷ 2 ∷ 3 ∷ []) × (cycle_from 4 (image (3 ∷ 0 ∷ 1 ∷ 2 ∷ [])) 1 ≡ 1 ∷ 0 ∷ 3 ∷ 2 ∷ [])
unfolding leaders cycle_from
cycles-of-table = (refl, refl)
