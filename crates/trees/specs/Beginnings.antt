-- Where parts of a component and of a tree begin.
use Rattle.std.specs.Prelude.{[], ◌∷◌, ℕ, zero, suc}
use Rattle.patterns.specs.Tree.{Tree, point, merge, size}
use Rattle.patterns.specs.Component.{Component}

-- how many trees of one point a component begins with
abbrev pub leading_points : Component → ℕ
leading_points [] = 0
leading_points (point ∷ c) = suc (leading_points c)
leading_points (merge t u ∷ c) = 0

-- where the last branch of a tree begins in its code: 1 where there is none
abbrev pub last_start : Tree → ℕ
last_start point = 1
last_start (merge t u) = size t

-- a point with so many single points as branches
abbrev pub star : ℕ → Tree
star zero = point
star (suc k) = merge (star k) point
