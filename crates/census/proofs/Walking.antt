-- Walking round the cycle of x until x comes back: the walk takes as many steps as the cycle has points.
use mathlib.Core.Path.{◌≡◌, refl, ap, sym, ◌∙◌}
use mathlib.Core.List.{◌∷◌}
use mathlib.Core.Bool.{true}
use Prim.Native.Nat.{ℕ, zero, suc, ◌+◌, ◌≤◌, ◌<◌}
use native.Mathlib.Omega.{arith}
use native.Mathlib.Numerals.{add-one}
use lib.Dec.{leb, ltb}
use borrow.Author.Tests.{leb-true, leb-false, ltb-true, ltb-false}
use lib.ListN.{length}
use Rattle.lists.proofs.Tests.{by-test}
use Rattle.patterns.specs.Table.{iterate, orbit, on_cycle, cycle_from}
use Rattle.map_theory.proofs.Orbits.{iterate-suc, orbit-length}
use Rattle.map_theory.proofs.Leaders.{Period, cycle-period}

-- y comes k steps after x, and x has not come back before
pub record Walking (n : ℕ) (f : ℕ → ℕ) (x k y : ℕ) : Type 0 where
  pub steps : ℕ
  pub fewer : steps < n
  pub period : Period f x steps
  pub cycle : cycle_from n f x ≡ x ∷ orbit f steps x
  pub begun : 0 < k
  pub within : k ≤ suc steps
  pub point : y < n
  pub comes : y ≡ iterate f k x

module _ (n : ℕ) (f : ℕ → ℕ) (inside : (x : ℕ) → x < n → f x < n) where
  pub walking_start : (x : ℕ) → x < n → on_cycle n f x ≡ true → Walking n f x 1 (f x)
  walking_start x h e =
      let r = cycle-period n f x e in
      record {
        steps = r.0;
        fewer = r.1;
        period = r.2;
        cycle = r.3;
        begun = omega arith;
        within = omega arith;
        point = inside x h;
        comes = refl;
      }

  -- as long as x has not come back the cycle is not walked through
  walking-within : {x k y : ℕ} (w : Walking n f x k y) → (y ≡ x → ⊥) → k ≤ w.steps
  walking-within {x} {k} w h =
      by-test (leb k w.steps)
      (λ t. leb-true k w.steps t)
      (λ t. let b = leb-false k w.steps t in
      let e : k ≡ suc w.steps = omega (arith, w.within) in
      absurd (h (w.comes ∙ ap (λ i. iterate f i x) e ∙ w.period.returns)))

  pub walking-bound : {x k y : ℕ} → Walking n f x k y → (y ≡ x → ⊥) → k < n
  walking-bound w h = omega (arith, w.fewer, walking-within w h)

  -- one step further
  pub walking-next : {x k y : ℕ} → Walking n f x k y → (y ≡ x → ⊥) → Walking n f x (k + 1) (f y)
  walking-next {x} {k} {y} w h =
      let b = walking-within w h in
      record {
        steps = w.steps;
        fewer = w.fewer;
        period = w.period;
        cycle = w.cycle;
        begun = omega arith;
        within = omega arith;
        point = inside y w.point;
        comes = ap f w.comes ∙ sym (iterate-suc f k x) ∙ ap (λ i. iterate f i x) (sym (add-one k));
      }

-- x comes back: the length of its cycle was walked
pub walking-end : {n : ℕ} {f : ℕ → ℕ} {x k y : ℕ} → Walking n f x k y → y ≡ x → k ≡ length (cycle_from n f x)
walking-end {k = zero} w h = absurd (omega (arith, w.begun))
walking-end {f = f} {x = x} {k = suc k} w h =
    let whole : k ≡ w.steps =
    by-test (ltb k w.steps)
    (λ t. absurd (w.period.no_earlier k (ltb-true k w.steps t) (sym w.comes ∙ h)))
    (λ t. let b = ltb-false k w.steps t in omega (arith, w.within)) in
    rw w.cycle (ap suc (whole ∙ sym (orbit-length f w.steps x)))
