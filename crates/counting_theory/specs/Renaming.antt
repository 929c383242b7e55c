-- The table of a map whose points are renamed.
use Rattle.std.specs.Prelude.{List, map}
use Prim.Native.Nat.{ℕ, compare}
use Rattle.lists.specs.Select.{range, place}
use Rattle.patterns.specs.Table.{image}

-- where the point y goes if the points of m are renamed by r
abbrev pub renamed_image : List ℕ → List ℕ → ℕ → ℕ
renamed_image m r y = image r (image m (place compare y r))

unfoldable pub renamed_table : ℕ → List ℕ → List ℕ → List ℕ
renamed_table n m r = map (renamed_image m r) (range 0 n)
