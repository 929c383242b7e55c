-- The points x, f x, f (f x), .. of a map f on the points below n: every point reaches a cycle, and what `on_cycle` says.
use mathlib.Core.Path.{◌≡◌, refl, ap, sym, ◌∙◌}
use mathlib.Core.Logic.{◌⊎◌, inl, inr}
use mathlib.Core.List.{[], ◌∷◌, ◌++◌, map}
use mathlib.Core.Bool.{true}
use Prim.Native.Nat.{ℕ, zero, suc, ◌+◌, ◌<◌}
use native.Mathlib.Omega.{arith}
use lib.Dec.{eqb}
use borrow.Author.Tests.{eq-eqb, eqb-true}
use lib.ListN.{length}
use Rattle.lists.proofs.Tests.{◌∈◌, either, some-member, some-true}
use Rattle.lists.proofs.Comparison.{compare-lawful}
use Rattle.lists.proofs.Members.{NoDup, one, lawful-decides, nodup-single, in_head, in_tail, in-cons-cases, in-or-not, not-in-nil}
use Rattle.lists.proofs.Pigeon.{nodup-below-length}
use Rattle.patterns.specs.Table.{iterate, orbit, on_cycle}

module _ (f : ℕ → ℕ) where
  pub iterate-suc : (k x : ℕ) → iterate f (suc k) x ≡ f (iterate f k x)
  iterate-suc zero x = refl
  iterate-suc (suc k) x = iterate-suc k (f x)

  -- j steps, and then k
  pub iterate-add : (j k x : ℕ) → iterate f (j + k) x ≡ iterate f k (iterate f j x)
  iterate-add zero k x = let e : 0 + k ≡ k = omega arith in ap (λ i. iterate f i x) e
  iterate-add (suc j) k x = let e : suc j + k ≡ suc (j + k) = omega arith in ap (λ i. iterate f i x) e ∙ iterate-add j k (f x)

  -- the order of the steps does not matter
  pub iterate-swap : (j k x : ℕ) → iterate f j (iterate f k x) ≡ iterate f k (iterate f j x)
  iterate-swap j k x =
      let e : k + j ≡ j + k = omega arith in
      sym (iterate-add k j x) ∙ ap (λ i. iterate f i x) e ∙ iterate-add j k x

  -- a point that comes back after p steps keeps doing so on its way
  pub period-moves : (p k : ℕ) {x : ℕ} → iterate f p x ≡ x → iterate f p (iterate f k x) ≡ iterate f k x
  period-moves p k {x} e = iterate-swap p k x ∙ ap (iterate f k) e

  -- from everything on its way a point that comes back is reached again
  pub come-back : (p k : ℕ) {x : ℕ} → iterate f (suc p) x ≡ x → (j : ℕ) × (iterate f j (iterate f k x) ≡ x)
  come-back p zero e = (0, refl)
  come-back p (suc k) {x} e =
      let r = come-back p k (period-moves (suc p) 1 e) in
      (r.0 + p, iterate-add r.0 p (iterate f k (f x)) ∙ ap (iterate f p) r.1 ∙ e)

  pub orbit-length : (k x : ℕ) → length (orbit f k x) ≡ k
  orbit-length zero x = refl
  orbit-length (suc k) x = ap suc (orbit-length k (f x))

  -- the orbit of k points holds what is reached in 1 to k steps
  pub in-orbit : (k i x : ℕ) → i < k → iterate f (suc i) x ∈ orbit f k x
  in-orbit zero i x h = absurd (omega arith)
  in-orbit (suc k) zero x h = in_head
  in-orbit (suc k) (suc i) x h = in_tail (in-orbit k i (f x) (omega arith))

  pub of-orbit : (k : ℕ) (x : ℕ) {y : ℕ} → y ∈ orbit f k x → (i : ℕ) × (i < k) × (y ≡ iterate f (suc i) x)
  of-orbit zero x m = not-in-nil m
  of-orbit (suc k) x m =
      either (in-cons-cases m)
      (λ e. (0, omega arith, e))
      (λ m'. let r = of-orbit k (f x) m' in (suc r.0, omega arith, r.2))

  -- each goes to the next
  pub orbit-turn : (k x : ℕ) → map f (x ∷ orbit f k x) ≡ orbit f k x ++ (iterate f (suc k) x ∷ [])
  orbit-turn zero x = refl
  orbit-turn (suc k) x = ap (λ l. f x ∷ l) (orbit-turn k (f x))

  -- x and the k points after it are all different, or one of them comes back on the way
  pub orbit-repeats : (k x : ℕ)
      → NoDup (x ∷ orbit f k x) ⊎ ((i : ℕ) × (p : ℕ) × (i + p < k) × (iterate f (suc p) (iterate f i x) ≡ iterate f i x))
  orbit-repeats zero x = inl (nodup-single x)
  orbit-repeats (suc k) x =
      either (orbit-repeats k (f x))
      (λ d. either (in-or-not (lawful-decides compare-lawful) x (f x ∷ orbit f k (f x)))
      (λ m. let r = of-orbit (suc k) x m in inr (0, r.0, omega arith, sym r.2))
      (λ h. inl (one h d)))
      (λ r. inr (suc r.0, r.1, omega arith, r.3))

module _ (n : ℕ) (f : ℕ → ℕ) where
  -- on a cycle: back after at most n steps
  pub on_cycle-period : (x : ℕ) → on_cycle n f x ≡ true → (p : ℕ) × (p < n) × (iterate f (suc p) x ≡ x)
  unfolding on_cycle
  on_cycle-period x e =
      let r = some-member (eqb x) (orbit f n x) e in
      let s = of-orbit f n x r.1 in
      (s.0, s.1, sym s.2 ∙ sym (eqb-true x r.0 r.2))

  pub period-on_cycle : (p x : ℕ) → p < n → iterate f (suc p) x ≡ x → on_cycle n f x ≡ true
  unfolding on_cycle
  period-on_cycle p x h e = some-true (eqb x) (in-orbit f n p x h) (eq-eqb x (iterate f (suc p) x) (sym e))

  -- the points after a point on a cycle are on a cycle
  pub on_cycle-moves : (k x : ℕ) → on_cycle n f x ≡ true → on_cycle n f (iterate f k x) ≡ true
  on_cycle-moves k x e =
      let r = on_cycle-period x e in
      period-on_cycle r.0 (iterate f k x) r.1 (period-moves f (suc r.0) k r.2)

  -- from every point after a point on a cycle the way leads back
  pub on_cycle-back : (k x : ℕ) → on_cycle n f x ≡ true → (j : ℕ) × (iterate f j (iterate f k x) ≡ x)
  on_cycle-back k x e = let r = on_cycle-period x e in come-back f r.0 k r.2

  module _ (inside : (x : ℕ) → x < n → f x < n) where
    pub iterate-inside : (k x : ℕ) → x < n → iterate f k x < n
    iterate-inside zero x h = h
    iterate-inside (suc k) x h = iterate-inside k (f x) (inside x h)

    -- some point within n steps comes back
    pub repeats : (x : ℕ) → x < n → (i : ℕ) × (p : ℕ) × (i + p < n) × (iterate f (suc p) (iterate f i x) ≡ iterate f i x)
    repeats x h =
        either (orbit-repeats f n x)
        (λ d.
        let b = nodup-below-length n d
        (λ y m. either (in-cons-cases m)
        (λ e. rw e h)
        (λ k. let r = of-orbit f n x k in rw r.2 (iterate-inside (suc r.0) x h))) in
        absurd (omega (arith, orbit-length f n x)))
        (λ r. r)

    -- every point reaches a cycle in less than n steps
    pub every-point-reaches-cycle : (x : ℕ) → x < n → (d : ℕ) × (d < n) × (on_cycle n f (iterate f d x) ≡ true)
    every-point-reaches-cycle x h =
        let r = repeats x h in
        (r.0, omega arith, period-on_cycle r.1 (iterate f r.0 x) (omega arith) r.3)
