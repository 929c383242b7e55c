-- How long a line is: at most 6,672 bytes for at most 200 points.
use mathlib.Core.Path.{◌≡◌}
use mathlib.Core.List.{List}
use Prim.Native.Nat.{ℕ, ◌+◌, ◌*◌, ◌≤◌}
use native.Mathlib.Nat.{mul-le-mul}
use native.Mathlib.Omega.{arith}
use lib.ListN.{length, length-append}
use Rattle.digraph6_theory.specs.Digraph6.{size_field, matrix, packed, body_length, digraph6}
use Rattle.digraph6_theory.proofs.Packing.{packed-length}
use Rattle.digraph6_theory.proofs.Sizes.{size_field-length}

pub line-length-is : (f : List ℕ) → length (digraph6 f) ≡ 1 + length (size_field (length f)) + body_length (length f)
unfolding digraph6
line-length-is f =
    let k = body_length (length f) in
    omega (arith, length-append (size_field (length f)) (packed k (matrix f)), packed-length k (matrix f))

pub line-length : (f : List ℕ) → length f ≤ 200 → length (digraph6 f) ≤ 6672
line-length f h =
    let square : length f * length f ≤ 200 * 200 = mul-le-mul h h in
    omega (arith, line-length-is f, size_field-length (length f))
