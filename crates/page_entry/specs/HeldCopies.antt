-- What the parts of the entry ask of a system by value.
use Rattle.std.specs.Prelude.{List, ℕ, ◌≤◌, length, take}
use Rattle.stepping.specs.HeldSteps.{HeldNext}

-- the first m sizes and the first n trees hold a system whose next codes are wanted, at most 1,000
pub record HeldCopies (sizes : List ℕ) (m : ℕ) (trees : List ℕ) (n wanted : ℕ) : Type 0 where
  pub held : HeldNext sizes m (take n trees)
  pub within : n ≤ length trees
  pub few : wanted ≤ 1000
