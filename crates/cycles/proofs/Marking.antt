-- Turning degrees into marks, place by place.
use mathlib.Core.Path.{◌≡◌}
use mathlib.Core.Bool.{cond}
use mathlib.Core.List.{List}
use Prim.Native.Nat.{ℕ, ◌≤◌, ◌<◌}
use lib.ListN.{length, get_or}
use Rattle.cycles.specs.Pruning.{left}

-- the places below x hold marks, the others degrees
pub record Marking (degrees marks : List ℕ) (x : ℕ) : Type 0 where
  pub same : length marks ≡ length degrees
  pub passed : x ≤ length degrees
  pub done : (w : ℕ) → w < x → get_or marks w 0 ≡ cond (left degrees w) 1 0
  pub rest : (w : ℕ) → x ≤ w → get_or marks w 0 ≡ get_or degrees w 0
