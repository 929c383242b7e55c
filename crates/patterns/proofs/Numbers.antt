-- How a number is written: in one byte below 128, else in two.
use mathlib.Core.Path.{◌≡◌}
use mathlib.Core.List.{[], ◌∷◌}
use Prim.Native.Nat.{ℕ, ◌+◌, ◌/◌, ◌%◌, ◌≤◌, ◌<◌}
use borrow.Author.Tests.{lt-ltb, le-ltb}
use Rattle.patterns.specs.Written.{write_number}

pub write-short : (x : ℕ) → x < 128 → write_number x ≡ x ∷ []
write-short x h = rw (lt-ltb x 128 h)

pub write-long : (x : ℕ) → 128 ≤ x → write_number x ≡ (x % 128 + 128) ∷ x / 128 ∷ []
write-long x h = rw (le-ltb x 128 h)
