-- The six bits of a byte by division, and the first of them that is 1 from a place on.
use mathlib.Core.Path.{◌≡◌, ap, ◌∙◌}
use Prim.Native.Nat.{ℕ, zero, suc, ◌+◌, ◌≤◌, ◌<◌}
use native.Mathlib.Omega.{arith}
use lib.ListN.{get_or}
use lib.Dec.{ltb}
use borrow.Author.Tests.{ltb-true, ltb-false}
use Rattle.lists.proofs.Tests.{by-test}
use Rattle.patterns.specs.Digraph6.{bits_of}

bit_below : (x j : ℕ) → get_or (bits_of x) j 0 < 2
bit_below x zero = omega arith
bit_below x (suc zero) = omega arith
bit_below x (suc (suc zero)) = omega arith
bit_below x (suc (suc (suc zero))) = omega arith
bit_below x (suc (suc (suc (suc zero)))) = omega arith
bit_below x (suc (suc (suc (suc (suc zero))))) = omega arith
bit_below x (suc (suc (suc (suc (suc (suc j)))))) = omega arith

-- from j on the bits before place i are 0
pub record Passing (x j i : ℕ) : Type 0 where
  pub from : j ≤ i
  pub within : i ≤ 6
  pub zeros : (k : ℕ) → j ≤ k → k < i → get_or (bits_of x) k 0 ≡ 0

module _ {x j i : ℕ} (p : Passing x j i) where
  pub passing-next : i < 6 → {b : ℕ} → b ≡ get_or (bits_of x) i 0 → (b ≡ 1 → ⊥) → Passing x j (i + 1)
  passing-next h {b} e none =
      let f = p.from in
      let zero-here : get_or (bits_of x) i 0 ≡ 0 = omega (arith, e, none, bit_below x i) in
      record {
        from = omega arith;
        within = omega arith;
        zeros = λ k l m.
            by-test (ltb k i)
            (λ t. p.zeros k l (ltb-true k i t))
            (λ t. let same : k ≡ i = omega (arith, ltb-false k i t) in ap (λ q. get_or (bits_of x) q 0) same ∙ zero-here);
      }
