-- A place between the components of a system.
use Rattle.std.specs.Prelude.{◌≡◌, ℕ, take}
use Rattle.patterns.specs.System.{System, weight}
use Rattle.patterns.specs.Written.{stretch_of}

-- the first i components of S are passed: the next begins at `start` in the written code, and at `from` in the trees
pub record Passed (S : System) (i from start : ℕ) : Type 0 where
  pub place : from ≡ weight (take i S)
  pub begins : start ≡ (stretch_of S i).0
