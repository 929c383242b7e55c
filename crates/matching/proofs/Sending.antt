-- A table that sends each of some points to the one beside it.
use mathlib.Core.Path.{◌≡◌}
use mathlib.Core.List.{List}
use Prim.Native.Nat.{ℕ, ◌≤◌, ◌<◌}
use lib.ListN.{length}
use Rattle.patterns.specs.Table.{image}
use Rattle.matching.specs.Sends.{Matched}

-- The first j points are sent.
pub record Sending (a b r : List ℕ) (j : ℕ) : Type 0 where
  pub matched : Matched a b
  pub within : j ≤ length a
  pub places : length r ≡ length a
  pub sent : (i : ℕ) → i < j → image r (image a i) ≡ image b i
