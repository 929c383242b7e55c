-- The bytes of a matrix of at most 200 points: how many they and their bits are.
use mathlib.Core.Path.{◌≡◌}
use mathlib.Core.List.{List}
use Prim.Native.Nat.{ℕ, ◌*◌, ◌≤◌}
use native.Mathlib.Nat.{mul-le-mul}
use native.Mathlib.Omega.{arith}
use lib.ListN.{length}
use Rattle.lists.specs.Select.{gather}
use Rattle.patterns.specs.Digraph6.{bits_of, body_length}
use Rattle.line_theory.proofs.Packing.{unpacked-length}
use Rattle.line_theory.proofs.Lines.{body-holds}
use Rattle.line_theory.proofs.OneLine.{body-length}
use Rattle.digraph6_reading.specs.LineResults.{MatrixAsked}

pub square-small : {n : ℕ} → n ≤ 200 → n * n ≤ 40000
square-small h = mul-le-mul h h

module _ {n : ℕ} (body : List ℕ) (few : n ≤ 200) (h : length body ≡ body_length n) where
  pub body-small : length body ≤ 6667
  body-small = omega (arith, square-small few)

  pub matrix-within : n * n ≤ length body * 6
  matrix-within = omega (arith, body-holds n)

module _ {body table : List ℕ} (a : MatrixAsked body table) where
  pub matrix-whole : length table * length table ≤ length (gather bits_of body)
  matrix-whole = omega (arith, matrix-within body a.small (body-length (length table) body a.is_body), unpacked-length body)
