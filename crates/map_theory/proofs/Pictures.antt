-- Pictures of a map: trees with a point at every place. All that is proved of the system of a map is read off a picture of it.
use mathlib.Core.Path.{◌≡◌}
use mathlib.Core.List.{List, [], ◌∷◌, ◌++◌, map}
use Prim.Native.Nat.{ℕ}
use Rattle.lists.specs.Select.{gather, range}
use Rattle.lists.proofs.Tests.{◌∈◌}
use Rattle.lists.proofs.Permute.{Perm}
use Rattle.patterns.specs.Component.{turn}
pub use Rattle.map_theory.specs.Plants.{Plant, tip, join, shape, root, inner, labels, shapes}

-- the branches, in their order
abbrev pub boughs : Plant → List Plant
boughs (tip x) = []
boughs (join t u) = boughs t ++ (u ∷ [])

-- the root of every branch goes to the point that it is a branch of
pub data Arrows (f : ℕ → ℕ) : Plant → Type 0 where
  arrows_tip : {x : ℕ} → Arrows f (tip x)
  arrows_join : {t u : Plant} → Arrows f t → Arrows f u → f (root u) ≡ root t → Arrows f (join t u)

-- all points of a picture, in written order
abbrev pub all_labels : List (List Plant) → List ℕ
all_labels pic = gather (gather labels) pic

-- pic shows the map f on the points below n: each point stands once, the branches go where they are attached, and the roots of a component
-- go each to the next one, the last to the first
pub record Picture (n : ℕ) (f : ℕ → ℕ) (pic : List (List Plant)) : Type 0 where
  pub points : Perm (all_labels pic) (range 0 n)
  pub arrows : (c : List Plant) (t : Plant) → c ∈ pic → t ∈ c → Arrows f t
  pub cycles : (c : List Plant) → c ∈ pic → map f (map root c) ≡ turn (map root c)
