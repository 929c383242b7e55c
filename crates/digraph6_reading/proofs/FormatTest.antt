-- Bytes that are all bytes of the format.
use mathlib.Core.Path.{◌≡◌}
use mathlib.Core.Bool.{Bool, true}
use mathlib.Core.List.{List}
use Prim.Native.Nat.{ℕ, ◌≤◌, ◌<◌}
use lib.ListN.{length, get_or}
use borrow.Author.Tests.{le-leb}
use Rattle.std.proofs.Common.{IsTrue, ◌↔◌}
use Rattle.lists.specs.Select.{each}
use Rattle.lists.proofs.Tests.{same_tests, each-true, each_member}
use Rattle.lists.proofs.Places.{in-index, index_of}
use Rattle.patterns.specs.Digraph6.{in_format}
use Rattle.line_theory.proofs.Packing.{in-format}

within-format : (x : ℕ) → (63 ≤ x) × (x ≤ 126) → in_format x ≡ true
within-format x h =
    let low : 63 ≤ x = h.0 in
    let high : x ≤ 126 = h.1 in
    rw (le-leb 63 x low, le-leb x 126 high)

-- a test whether the byte at each place is
pub all-format : (s : List ℕ) (b : Bool) → (IsTrue b ↔ ((k : ℕ) → k < length s → (63 ≤ get_or s k 0) × (get_or s k 0 ≤ 126))) → b ≡ each in_format s
all-format s b t =
    same_tests b (each in_format s)
    (λ e. each-true in_format s (λ x m. let i = index_of 0 m in let same : get_or s i.0 0 ≡ x = i.2 in rw (← same) (within-format (get_or s i.0 0) (t.0 e i.0 i.1))))
    (λ e. t.1 (λ k h. in-format (get_or s k 0) (each_member in_format e (in-index s k 0 h))))
