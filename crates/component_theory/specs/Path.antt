-- The key of a component and its path: the keys on the way from the cycle down to it.
use Rattle.std.specs.Prelude.{List, [], ◌∷◌, ◌++◌, ℕ, zero, suc, ◌-◌, length}
use Rattle.lists.specs.Select.{place}
use Rattle.patterns.specs.Component.{Component, points, compare_component}
use Rattle.patterns.specs.Generation.{parent, candidates}

-- where d first stands among the candidates of its parent
abbrev pub key : Component → ℕ
key d = place compare_component d (candidates (parent d))

-- the keys of the last k components on the way down to c
unfoldable pub path_of : ℕ → Component → List ℕ
path_of zero c = []
path_of (suc k) c = path_of k (parent c) ++ (key c ∷ [])

unfoldable pub path : Component → List ℕ
unfolding path_of
path c = path_of (points c - length c) c
