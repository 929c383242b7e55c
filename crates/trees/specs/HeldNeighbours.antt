-- Two neighbouring trees in memory.
use Rattle.std.specs.Prelude.{◌≡◌, List, ◌∷◌, ◌++◌, ℕ, ◌≤◌, length, replicate}
use Rattle.patterns.specs.Tree.{Tree, point}
use Rattle.patterns.specs.Component.{Component, flat}

-- c behind i points
abbrev pub behind : ℕ → Component → Component
behind i c = replicate i point ++ c

-- a component of at most 200 points whose first i trees are points and that has two trees more, and a buffer of as many bytes
pub record HeldNeighbours (s : List ℕ) (i : ℕ) (out : List ℕ) : Type 0 where
  pub this : Tree
  pub that : Tree
  pub after : Component
  pub is : s ≡ flat (behind i (this ∷ that ∷ after))
  pub small : length s ≤ 200
  pub room : length out ≡ length s
