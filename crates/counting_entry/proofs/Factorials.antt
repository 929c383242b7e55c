-- A factorial, factor by factor.
use mathlib.Core.Path.{◌≡◌, refl, ap, ◌∙◌}
use Prim.Native.Nat.{ℕ, suc, ◌+◌, ◌*◌, ◌≤◌, ◌<◌}
use native.Mathlib.Nat.{mul_comm}
use native.Mathlib.Omega.{arith}
use Rattle.counting_theory.specs.Symmetries.{factorial}
use Rattle.counting_theory.proofs.SmallSymmetries.{most, small-factorial}

-- the product of all numbers below i
pub record FactorsBelow (n i product : ℕ) : Type 0 where
  pub last : ℕ
  pub next : i ≡ suc last
  pub within : last ≤ n
  pub is : product ≡ factorial last

pub no-factors : (n : ℕ) → FactorsBelow n 1 1
no-factors n = record { last = 0; next = refl; within = omega arith; is = refl }

module _ {n i product : ℕ} (w : FactorsBelow n i product) where
  factor-more : product * i ≡ factorial (suc w.last)
  factor-more = rw (w.is, w.next) (mul_comm (factorial w.last) (suc w.last))

  pub product_small : n ≤ 15 → i ≤ n → product * i ≤ most
  product_small h k = rw factor-more (small-factorial (suc w.last) (omega (arith, w.next)))

  pub factors-next : i ≤ n → FactorsBelow n (i + 1) (product * i)
  factors-next k = record { last = suc w.last; next = omega (arith, w.next); within = omega (arith, w.next); is = factor-more }

  pub factors-end : n < i → product ≡ factorial n
  factors-end k =
      let e : w.last ≡ n = omega (arith, w.next, w.within) in
      w.is ∙ ap factorial e
