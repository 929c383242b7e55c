-- What the functions of this crate ask of lent slices, and what their answers mean. A system in memory is two slices (`Holds` of crate memory).
use Rattle.std.specs.Prelude.{◌≡◌, Bool, true, false, List, ◌∷◌, ℕ, ◌≤◌, length}
use Rattle.std.proofs.Math.Option.{Option, none, some}
use Rattle.lists.specs.Select.{gather}
use Rattle.patterns.specs.Component.{Component, flat, valid_component}
use Rattle.patterns.specs.System.{System, canonical}
use Rattle.memory.specs.Memory.{Holds}

-- slices for work, of at least n places each
pub record Work (n : ℕ) (up side out : List ℕ) : Type 0 where
  pub up_room : n ≤ length up
  pub side_room : n ≤ length side
  pub out_room : n ≤ length out

-- a valid component in front of others, of at most 200 points in all
pub record HeldAhead (sizes trees up side out : List ℕ) : Type 0 where
  pub first : Component
  pub rest : System
  pub holds : Holds (first ∷ rest) sizes trees
  pub valid : valid_component first ≡ true
  pub small : length trees ≤ 200
  pub work : Work (length trees) up side out

-- d, if there is one, in front of what fills the places to the right of it; r says whether there is, and where there is none nothing has changed
abbrev pub Advanced : Option Component → (Component → System) → Bool → List ℕ → List ℕ → Type 0
Advanced none filling r before after = (r ≡ false) × (after ≡ before)
Advanced (some d) filling r before after = (r ≡ true) × (after ≡ gather flat (d ∷ filling d))

-- a canonical system of at most 200 points
pub record HeldCanonical (sizes trees up side out : List ℕ) : Type 0 where
  pub system : System
  pub holds : Holds system sizes trees
  pub canonical_is : canonical system ≡ true
  pub small : length trees ≤ 200
  pub work : Work (length trees) up side out

-- another system with the same sizes, if there is one, and r says whether there is
abbrev pub Bumped : Option System → Bool → List ℕ → List ℕ → Type 0
Bumped none r sizes trees = r ≡ false
Bumped (some T) r sizes trees = (r ≡ true) × Holds T sizes trees
