-- The number that digits of six bits make, digit after digit; of at most six it has 36 bits.
use mathlib.Core.Path.{◌≡◌, refl, ◌∙◌, subst}
use mathlib.Core.Bool.{true}
use mathlib.Core.List.{List, [], ◌∷◌}
use Prim.Native.Nat.{ℕ, zero, suc, ◌+◌, ◌-◌, ◌*◌, ◌≤◌, ◌<◌}
use native.Mathlib.Omega.{arith}
use lib.ListN.{length, get_or, drop}
use Rattle.lists.specs.Select.{each}
use Rattle.lists.proofs.Tests.{each_member}
use Rattle.lists.proofs.Places.{in-index, drop-one}
use Rattle.patterns.specs.Digraph6.{in_format, size_value}
use Rattle.line_theory.proofs.Packing.{in-format}

-- 64 to the power i, for i up to 6
abbrev power_of : ℕ → ℕ
power_of i = get_or (1 ∷ 64 ∷ 4096 ∷ 262144 ∷ 16777216 ∷ 1073741824 ∷ 68719476736 ∷ []) i 0

power-next : (i : ℕ) → i < 6 → power_of (suc i) ≡ 64 * power_of i
power-next zero h = refl
power-next (suc zero) h = refl
power-next (suc (suc zero)) h = refl
power-next (suc (suc (suc zero))) h = refl
power-next (suc (suc (suc (suc zero)))) h = refl
power-next (suc (suc (suc (suc (suc zero))))) h = refl
power-next (suc (suc (suc (suc (suc (suc i)))))) h = absurd (omega arith)

-- the first i digits make the number a
pub record Valuing (digits : List ℕ) (a i : ℕ) : Type 0 where
  pub within : i ≤ length digits
  pub small : a < power_of i
  pub rest : size_value 0 digits ≡ size_value a (drop i digits)

module _ {digits : List ℕ} {a i : ℕ} (v : Valuing digits a i) (format : each in_format digits ≡ true) (few : length digits ≤ 6) where
  pub digit-format : i < length digits → (63 ≤ get_or digits i 0) × (get_or digits i 0 ≤ 126)
  digit-format h = in-format (get_or digits i 0) (each_member in_format format (in-index digits i 0 h))

  pub valuing-next : i < length digits → Valuing digits (a * 64 + (get_or digits i 0 - 63)) (i + 1)
  valuing-next h =
      let d = digit-format h in
      let k = v.small in
      let e : suc i ≡ i + 1 = omega arith in
      let small : a * 64 + (get_or digits i 0 - 63) < power_of (suc i) = omega (arith, d.0, d.1, power-next i (omega arith)) in
      record {
        within = omega arith;
        small = subst (λ m. a * 64 + (get_or digits i 0 - 63) < power_of m) e small;
        rest = v.rest ∙ rw (drop-one 0 digits i h);
      }
