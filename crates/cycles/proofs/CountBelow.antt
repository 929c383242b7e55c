-- Counting the numbers below k that pass.
use mathlib.Core.Path.{◌≡◌, refl, ap, ap₂, ◌∙◌}
use mathlib.Core.Bool.{Bool, true, false, cond}
use Prim.Native.Nat.{ℕ, zero, suc, ◌+◌, ◌≤◌, ◌<◌}
use native.Mathlib.Omega.{arith}
use lib.Dec.{ltb}
use borrow.Author.Tests.{ltb-true, ltb-false}
use Rattle.lists.proofs.Tests.{by-test}
use Rattle.cycles.specs.Pruning.{count_below}

module _ (p : ℕ → Bool) where
  -- at most k
  pub count-within : (k : ℕ) → count_below p k ≤ k
  count-within zero = omega arith
  count-within (suc k) =
      by-test (p k)
      (λ t. rw t (omega (arith, count-within k)))
      (λ t. rw t (omega (arith, count-within k)))

  -- where none passes the count is 0
  pub count_none : (k : ℕ) → ((z : ℕ) → z < k → p z ≡ false) → count_below p k ≡ 0
  count_none zero no_one = refl
  count_none (suc k) no_one = rw (no_one k (omega arith)) (omega (arith, count_none k (λ z b. no_one z (omega arith))))

  -- where one does not pass fewer than k do
  pub count-fewer : (k : ℕ) {y : ℕ} → y < k → p y ≡ false → count_below p k < k
  count-fewer zero h e = absurd (omega arith)
  count-fewer (suc k) {y} h e =
      by-test (ltb y k)
      (λ t.
      let fewer = count-fewer k (ltb-true y k t) e in
      by-test (p k) (λ u. rw u (omega (arith, fewer))) (λ u. rw u (omega (arith, fewer))))
      (λ t.
      let q : k ≡ y = omega (arith, ltb-false y k t) in
      let fails : p k ≡ false = ap p q ∙ e in
      rw fails (omega (arith, count-within k)))

  -- where one passes the count is not 0
  pub count-one : (k : ℕ) {y : ℕ} → y < k → p y ≡ true → 0 < count_below p k
  count-one zero h e = absurd (omega arith)
  count-one (suc k) {y} h e =
      by-test (ltb y k)
      (λ t. omega (arith, count-one k (ltb-true y k t) e))
      (λ t.
      let q : k ≡ y = omega (arith, ltb-false y k t) in
      let passes : p k ≡ true = ap p q ∙ e in
      rw passes (omega arith))

  -- where the count is not 0 one passes
  pub count-some : (k : ℕ) → 0 < count_below p k → (z : ℕ) × (z < k) × (p z ≡ true)
  count-some zero h = absurd (omega arith)
  count-some (suc k) h =
      by-test (p k)
      (λ t. (k, omega arith, t))
      (λ t.
      let fewer : 0 < 0 + count_below p k = rw t at h in
      let r = count-some k (omega arith) in
      (r.0, omega (arith, r.1), r.2))

module _ (p q : ℕ → Bool) where
  -- the same pass
  pub count_same : (k : ℕ) → ((z : ℕ) → z < k → p z ≡ q z) → count_below p k ≡ count_below q k
  count_same zero same = refl
  count_same (suc k) same = ap₂ ◌+◌ (ap (λ b. cond b 1 0) (same k (omega arith))) (count_same k (λ z b. same z (omega arith)))

  -- all but y
  pub count_less : (k : ℕ) {y : ℕ} → y < k → p y ≡ true → q y ≡ false → ((z : ℕ) → z < k → (z ≡ y → ⊥) → p z ≡ q z)
      → count_below p k ≡ suc (count_below q k)
  count_less zero h with-y without same = absurd (omega arith)
  count_less (suc k) {y} h with-y without same =
      by-test (ltb y k)
      (λ t.
      let b = ltb-true y k t in
      let alike : p k ≡ q k = same k (omega arith) (λ e. omega arith) in
      rw alike (omega (arith, count_less k b with-y without (λ z c d. same z (omega arith) d))))
      (λ t.
      let e : k ≡ y = omega (arith, ltb-false y k t) in
      let here : p k ≡ true = ap p e ∙ with-y in
      let gone : q k ≡ false = ap q e ∙ without in
      rw (here, gone) (omega (arith, count_same k (λ z c. same z (omega arith) (λ d. omega arith)))))
