-- The map of a code: document 01, "The written code", second paragraph. The tree numbers in written order are the points 0, 1 and on.
use Rattle.std.specs.Prelude.{List, [], ◌∷◌, ◌++◌, ℕ, ◌+◌}
use Rattle.patterns.specs.Tree.{Tree, point, merge, size}
use Rattle.patterns.specs.Component.{Component, points}
use Rattle.patterns.specs.System.{System}

-- the images of the points of a tree but its root, where the root is point p: the root of a branch goes to the point that it is a branch of
abbrev pub inner_images : ℕ → Tree → List ℕ
inner_images p point = []
inner_images p (merge t u) = inner_images p t ++ (p ∷ inner_images (p + size t) u)

-- the images of the trees of a cycle, the next root being point p: a root goes to the root of the next tree, and the last to the first
abbrev pub cycle_images : ℕ → ℕ → Component → List ℕ
cycle_images first p [] = []
cycle_images first p (t ∷ []) = first ∷ inner_images p t
cycle_images first p (t ∷ u ∷ ts) = (p + size t) ∷ (inner_images p t ++ cycle_images first (p + size t) (u ∷ ts))

-- the images of the components, the next point being p
abbrev pub images_from : ℕ → System → List ℕ
images_from p [] = []
images_from p (c ∷ S) = cycle_images p p c ++ images_from (p + points c) S

unfoldable pub map_of : System → List ℕ
map_of S = images_from 0 S
