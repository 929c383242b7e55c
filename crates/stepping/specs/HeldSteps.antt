-- What the functions of this crate ask of lent slices, and what their answers mean. A system in memory is two slices (`Holds` of crate memory).
use Rattle.std.specs.Prelude.{◌≡◌, true, List, ℕ, ◌≤◌, length, take, Some, None, Option as Number}
use Rattle.std.proofs.Math.Option.{Option, none, some}
use Rattle.patterns.specs.System.{System, canonical}
use Rattle.bumping.specs.HeldBumps.{Work}
use Rattle.memory.specs.Memory.{Holds}

-- a canonical system, its sizes in the first m of at most 200 places, which are enough for the sizes of any system of as many points
pub record HeldStep (sizes : List ℕ) (m : ℕ) (trees up side out : List ℕ) : Type 0 where
  pub system : System
  pub holds : Holds system (take m sizes) trees
  pub canonical_is : canonical system ≡ true
  pub within : m ≤ length sizes
  pub room : length trees ≤ length sizes
  pub small : length sizes ≤ 200
  pub work : Work (length trees) up side out

-- the same where there is work space: a canonical system of at most 200 points, its sizes in the first m of 200 places
pub record HeldNext (sizes : List ℕ) (m : ℕ) (trees : List ℕ) : Type 0 where
  pub system : System
  pub holds : Holds system (take m sizes) trees
  pub canonical_is : canonical system ≡ true
  pub within : m ≤ length sizes
  pub places : length sizes ≡ 200
  pub small : length trees ≤ 200

-- the system that the step leads to, if there is one: the answer says how many components it has, and their sizes stand in the first places
abbrev pub SteppedTo : Option System → Number ℕ → List ℕ → List ℕ → Type 0
SteppedTo none r sizes trees = r ≡ None
SteppedTo (some T) r sizes trees = (r ≡ Some (length T)) × Holds T (take (length T) sizes) trees
