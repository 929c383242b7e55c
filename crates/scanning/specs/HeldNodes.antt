-- What the functions of this crate ask of lent slices, and what their answers mean.
use Rattle.std.specs.Prelude.{◌≡◌, Bool, true, List, ℕ, suc, ◌≤◌, length}
use Rattle.std.proofs.Math.Option.{Option}
use Rattle.lists.specs.Select.{otherwise}
use Rattle.patterns.specs.Component.{Component, flat, valid_component}
use Rattle.patterns.specs.Generation.{candidates}
use Rattle.trees.specs.Beginnings.{leading_points}
use Rattle.children.specs.Candidates.{Gave}

-- a valid component of at most 200 points
pub record Node (s : List ℕ) : Type 0 where
  pub trees : Component
  pub is : s ≡ flat trees
  pub valid : valid_component trees ≡ true
  pub small : length s ≤ 200

-- a buffer of as many bytes
abbrev pub AsLong : List ℕ → List ℕ → Type 0
AsLong s out = length out ≡ length s

-- a valid component of at most 200 points with its numbers of pairs of neighbours and of leading points, and a buffer of as many bytes
pub record HeldScan (s : List ℕ) (pairs lead : ℕ) (out : List ℕ) : Type 0 where
  pub node : Node s
  pub room : AsLong s out
  pub counted : length node.trees ≡ suc pairs
  pub leads : leading_points node.trees ≡ lead

-- to is a place of the candidates, or their end
abbrev pub PlaceIn : List ℕ → ℕ → Type 0
PlaceIn s to = (c : Component) → s ≡ flat c → to ≤ length (candidates c)

-- what is looked for at place k of c was written, or it is what is looked for at place j
pub record Passed (search : Component → ℕ → Option Component) (c : Component) (k j : ℕ) (r : Bool) (out : List ℕ) : Type 0 where
  pub found : Option Component
  pub gave : Gave found r out
  pub is : search c k ≡ otherwise found (search c j)
