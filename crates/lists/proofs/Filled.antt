-- A list copied over another one.
use mathlib.Core.Path.{◌≡◌, ap, ◌∙◌}
use mathlib.Core.List.{List, ◌++◌, append-nil}
use Prim.Native.Nat.{ℕ}
use native.Mathlib.Omega.{arith}
use lib.ListN.{length, drop, drop_of_length-le}

-- a list copied over one of the same length
pub copied : (s out : List ℕ) → length out ≡ length s → s ++ drop (length s) out ≡ s
copied s out h = ap (λ r. s ++ r) (drop_of_length-le out {i = length s} (omega arith)) ∙ append-nil s
