-- What the functions of this crate ask of lent slices, and what their answers mean.
use Rattle.std.specs.Prelude.{◌≡◌, Bool, true, false, List, ◌∷◌, ℕ}
use Rattle.std.proofs.Math.Option.{Option, none, some}
use Rattle.patterns.specs.Component.{Component, flat, valid_component}
use Rattle.trees.specs.HeldNeighbours.{behind, HeldNeighbours}

-- a valid component of at most 200 points whose first i trees are points and that has two trees more, and a buffer of as many bytes
pub record HeldCandidate (s : List ℕ) (i : ℕ) (out : List ℕ) : Type 0 where
  pub pair : HeldNeighbours s i out
  pub valid : valid_component (behind i (pair.this ∷ pair.that ∷ pair.after)) ≡ true

-- a component, if there is one, was written to a buffer, and r says whether there is
abbrev pub Gave : Option Component → Bool → List ℕ → Type 0
Gave none r out = r ≡ false
Gave (some d) r out = (r ≡ true) × (out ≡ flat d)
