-- What stands beside a component in a direction.
use Rattle.std.specs.Prelude.{◌≡◌, Bool, true, false, List, ℕ, ◌+◌, ◌<◌, length}
use Rattle.std.proofs.Math.Option.{Option, none}
use Rattle.patterns.specs.Component.{Component, flat}
use Rattle.patterns.specs.Generation.{has_parent, parent, candidates}
use Rattle.component_theory.specs.ChildPlaces.{child_from, child_before}
use Rattle.component_theory.specs.Successor.{next_sibling}
use Rattle.children.specs.Candidates.{Gave}
use Rattle.generation.specs.declared.Direction.{Direction}
use Rattle.generation.specs.declared.Direction.TheVariants.{Forward, Backward}
use Rattle.generation.specs.declared.Sibling.{Sibling}
use Rattle.generation.specs.declared.Sibling.TheVariants.{Root, Last, Next}

-- the flag of a direction
abbrev pub is_forward : Direction → Bool
is_forward Forward = true
is_forward Backward = false

-- k is a place of the candidates
abbrev pub ChildKey : List ℕ → ℕ → Type 0
ChildKey s k = (c : Component) → s ≡ flat c → k < length (candidates c)

-- the child of c after the one at place k
unfoldable pub child_beside : Bool → Component → ℕ → Option Component
unfolding child_from child_before
child_beside true c k = child_from c (k + 1)
child_beside false c k = child_before c k

-- beside c: no parent; or the parent in one buffer, and then no next sibling, or the next sibling in the other
abbrev pub Beside : Bool → Component → Sibling → List ℕ → List ℕ → Type 0
Beside forward c Root up out = has_parent c ≡ false
Beside forward c Last up out = (has_parent c ≡ true) × (up ≡ flat (parent c)) × (next_sibling forward c ≡ none)
Beside forward c Next up out = (has_parent c ≡ true) × (up ≡ flat (parent c)) × Gave (next_sibling forward c) true out
