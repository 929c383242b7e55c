-- The steps that bring every point of a cycle back are the common multiples of the cycle lengths, so the period is their least common multiple.
use mathlib.Core.Path.{◌≡◌, refl, ap, sym, ◌∙◌}
use mathlib.Core.Bool.{true}
use Prim.Native.Nat.{ℕ, zero, suc, ◌+◌, ◌-◌, ◌*◌, ◌/◌, ◌%◌, ◌≤◌, ◌<◌, ◌∣◌}
use native.Mathlib.Nat.{zero-mul, suc-mul, mod-lt, div-add-mod', dvd_of_mod-eq-zero, div-mul_cancel}
use native.Mathlib.Omega.{arith}
use lib.ListN.{length}
use Rattle.patterns.specs.Table.{iterate, on_cycle, cycle_from}
use Rattle.patterns.specs.Census.{cycle_lengths}
use Rattle.map_theory.proofs.Orbits.{iterate-add, iterate-swap, orbit-length, iterate-inside, on_cycle-moves, on_cycle-back, every-point-reaches-cycle}
use Rattle.map_theory.proofs.Leaders.{Period, cycle-period, of-leaders, leader-on_cycle, has-leader}
use Rattle.map_theory.proofs.CensusTheory.{cycle-length-same, in-cycle_lengths, of-cycle_lengths, cycle_lengths-positive}
use Rattle.period_theory.specs.Multiples.{lcm_from}
use Rattle.period_theory.specs.LeastPeriod.{BringsBack, Settled, BringsBackAfter, LeastPeriod}
use Rattle.period_theory.proofs.CommonMultiples.{Common, lcms-positive, lcms-common, lcms-least}

module _ (f : ℕ → ℕ) {x : ℕ} where
  -- what p steps bring back, k times p steps bring back
  iterate-multiple : (p k : ℕ) → iterate f p x ≡ x → iterate f (k * p) x ≡ x
  iterate-multiple p zero e = ap (λ i. iterate f i x) (zero-mul p)
  iterate-multiple p (suc k) e =
      ap (λ i. iterate f i x) (suc-mul k p) ∙ iterate-add f (k * p) p x ∙ ap (iterate f p) (iterate-multiple p k e) ∙ e

  multiple-back : (p q : ℕ) → p ∣ q → iterate f p x ≡ x → iterate f q x ≡ x
  multiple-back p q d e = ap (λ i. iterate f i x) (sym (div-mul_cancel p d)) ∙ iterate-multiple p (q / p) e

  -- if p steps and q steps bring x back, so does the remainder
  remainder-back : (p q : ℕ) → iterate f p x ≡ x → iterate f q x ≡ x → iterate f (q % p) x ≡ x
  remainder-back p q e b =
      ap (iterate f (q % p)) (sym (iterate-multiple p (q / p) e)) ∙ sym (iterate-add f (q / p * p) (q % p) x) ∙ ap (λ i. iterate f i x) (div-add-mod' q p) ∙ b

  -- no number of steps from 1 to p brings x back
  below-period : {p : ℕ} (i : ℕ) → Period f x p → i < suc p → iterate f i x ≡ x → i ≡ 0
  below-period zero c h e = refl
  below-period (suc i) c h e = absurd (c.no_earlier i (omega arith) e)

  period-divides : {p : ℕ} (q : ℕ) → Period f x p → iterate f q x ≡ x → suc p ∣ q
  period-divides {p} q c e =
      dvd_of_mod-eq-zero (suc p) (below-period (q % suc p) c (mod-lt q (omega arith)) (remainder-back (suc p) q c.returns e))

module _ (n : ℕ) (f : ℕ → ℕ) where
  -- the length of the cycle from a point on it is the point's least period
  length-period : (x : ℕ) → on_cycle n f x ≡ true → (p : ℕ) × Period f x p × (suc p ≡ length (cycle_from n f x))
  length-period x e =
      let r = cycle-period n f x e in
      (r.0, r.2, sym (ap length r.3 ∙ ap suc (orbit-length f r.0 x)))

  back-divides : (q x : ℕ) → on_cycle n f x ≡ true → iterate f q x ≡ x → length (cycle_from n f x) ∣ q
  back-divides q x e b = let r = length-period x e in rw r.2 at (period-divides f q r.1 b)

  divides-back : (q x : ℕ) → on_cycle n f x ≡ true → length (cycle_from n f x) ∣ q → iterate f q x ≡ x
  divides-back q x e d =
      let r = length-period x e in
      multiple-back f (length (cycle_from n f x)) q d (rw r.2 at r.1.returns)

module _ (n : ℕ) (f : ℕ → ℕ) (inside : (x : ℕ) → x < n → f x < n) where
  pub back-common : (q : ℕ) → BringsBack n f q → Common (cycle_lengths n f) q
  back-common q b l m =
      let r = of-cycle_lengths n f m in
      let o = leader-on_cycle n f inside r.1 in
      rw r.2 (back-divides n f q r.0 o (b r.0 (of-leaders n f inside r.1).0 o))

  pub common-back : (q : ℕ) → Common (cycle_lengths n f) q → BringsBack n f q
  common-back q c x h e =
      let r = has-leader n f inside x h e in
      let l = cycle-length-same n f r.0 (leader-on_cycle n f inside r.1) r.2 in
      divides-back n f q x e (rw l (c (length (cycle_from n f r.0)) (in-cycle_lengths n f r.1)))

  pub period-lcm : LeastPeriod n f (lcm_from 1 (cycle_lengths n f))
  period-lcm =
      let positives = cycle_lengths-positive n f in
      record {
        positive = lcms-positive (cycle_lengths n f) positives;
        is_back = common-back (lcm_from 1 (cycle_lengths n f)) (lcms-common (cycle_lengths n f) positives);
        least = λ q h b. lcms-least (cycle_lengths n f) positives q h (back-common q b);
      }

  -- n steps bring every point onto a cycle, and so do more
  pub settled-from : (k : ℕ) → n ≤ k → Settled n f k
  settled-from k i x h =
      let r = every-point-reaches-cycle n f inside x h in
      let e : r.0 + (k - r.0) ≡ k = omega arith in
      let s : iterate f k x ≡ iterate f (k - r.0) (iterate f r.0 x) = ap (λ i. iterate f i x) (sym e) ∙ iterate-add f r.0 (k - r.0) x in
      rw s (on_cycle-moves n f (k - r.0) (iterate f r.0 x) r.2)

  -- "once every point is on a cycle, p further steps bring each point back" [document 02, paper 8]: after however many steps that is
  pub back-further : (k q : ℕ) → Settled n f k → BringsBack n f q → BringsBackAfter n f k q
  back-further k q s b x h = b (iterate f k x) (iterate-inside n f inside k x h) (s x h)

  -- every point of a cycle is k steps after some point
  pub further-back : (k q : ℕ) → BringsBackAfter n f k q → BringsBack n f q
  further-back k q b x h e =
      let r = on_cycle-back n f k x e in
      let y = iterate f r.0 x in
      let s : iterate f k y ≡ x = iterate-swap f k r.0 x ∙ r.1 in
      ap (iterate f q) (sym s) ∙ b y (iterate-inside n f inside r.0 x h) ∙ s

pub period-unique : {n : ℕ} {f : ℕ → ℕ} {p q : ℕ} → LeastPeriod n f p → LeastPeriod n f q → p ≡ q
period-unique {p = p} {q = q} a b = omega (arith, a.least q b.positive b.is_back, b.least p a.positive a.is_back)
