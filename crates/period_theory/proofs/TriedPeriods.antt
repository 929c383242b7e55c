-- The period that the definition finds by trying [document 02, paper 8] is the least number of steps that brings back every point of a cycle, and the least common
-- multiple of the cycle lengths.
use mathlib.Core.Path.{◌≡◌, refl, ◌∙◌}
use mathlib.Core.Bool.{true, false}
use Prim.Native.Nat.{ℕ, zero, suc, ◌+◌, ◌^◌, ◌≤◌, ◌<◌}
use native.Mathlib.Omega.{arith}
use lib.Dec.{eqb}
use borrow.Author.Tests.{eq-eqb, eqb-true, eqb-false}
use Rattle.lists.specs.Select.{range}
use Rattle.lists.proofs.Tests.{by-test, is_false, each_member, each-true}
use Rattle.lists.proofs.Members.{in-range, of_range}
use Rattle.patterns.specs.Table.{iterate}
use Rattle.patterns.specs.Census.{cycle_lengths, occurring}
use Rattle.patterns.specs.Period.{brings_back, least_from, period}
use Rattle.map_theory.proofs.CensusTheory.{cycle_lengths-positive, lengths-add-up, cycle-points-bound}
use Rattle.map_theory.proofs.Occurring.{of-occurring, in-occurring}
use Rattle.period_theory.specs.Multiples.{lcm_from}
use Rattle.period_theory.specs.LeastPeriod.{BringsBack, LeastPeriod}
use Rattle.period_theory.proofs.CommonMultiples.{lcms-same, lcms-power}
use Rattle.period_theory.proofs.CyclePeriods.{period-lcm, settled-from, back-further, further-back}

module _ (n : ℕ) (f : ℕ → ℕ) where
  -- the search from p on finds q, if q brings back and nothing from p on before q does
  found : (k p q : ℕ) → p ≤ q → q ≤ p + k → brings_back n f q ≡ true → ((r : ℕ) → p ≤ r → r < q → brings_back n f r ≡ false) → least_from n f k p ≡ q
  unfolding least_from
  found zero p q h i e none = omega arith
  found (suc k) p q h i e none =
      by-test (eqb p q)
      (λ t. let s = eqb-true p q t in rw (s, e) refl)
      (λ t. let s = eqb-false p q t in rw (none p (omega arith) (omega arith)) (found k (suc p) q (omega arith) (omega arith) e (λ r l. none r (omega arith))))

  module _ (inside : (x : ℕ) → x < n → f x < n) where
    -- the test of the definition: p brings every point back after n steps exactly if it brings every point of a cycle back
    pub brings-back-true : (p : ℕ) → BringsBack n f p → brings_back n f p ≡ true
    unfolding brings_back
    brings-back-true p b =
        each-true _ (range 0 n)
        (λ x m. let r = of_range 0 n m in eq-eqb (iterate f p (iterate f n x)) (iterate f n x) (back-further n f inside n p (settled-from n f inside n (omega arith)) b x (omega arith)))

    pub true-brings-back : (p : ℕ) → brings_back n f p ≡ true → BringsBack n f p
    unfolding brings_back
    true-brings-back p e =
        further-back n f inside n p (λ x h. eqb-true (iterate f p (iterate f n x)) (iterate f n x) (each_member _ {l = range 0 n} e (in-range 0 n (omega arith) (omega arith))))

    -- the search ends in time
    lcm-tried : lcm_from 1 (cycle_lengths n f) ≤ 1 + n ^ n
    lcm-tried =
        omega
        (arith, lcms-power n (cycle_lengths n f) (cycle_lengths-positive n f) (omega (arith, lengths-add-up n f inside, cycle-points-bound n f inside)))

    -- Round length: the period is the least common multiple of the cycle lengths,
    pub period-is-lcm : period n f ≡ lcm_from 1 (cycle_lengths n f)
    unfolding period
    period-is-lcm =
        let r = period-lcm n f inside in
        let q = lcm_from 1 (cycle_lengths n f) in
        found (n ^ n) 1 q r.positive lcm-tried (brings-back-true q r.is_back)
        (λ p h l. is_false (brings_back n f p) (λ e. let s = r.least p h (true-brings-back p e) in absurd (omega arith)))

    -- the least of at least 1 that brings every point of a cycle back,
    pub period-least : LeastPeriod n f (period n f)
    period-least = rw period-is-lcm (period-lcm n f inside)

    -- and the least common multiple of the lengths that occur, which a census tells
    pub period-occurring : period n f ≡ lcm_from 1 (occurring n f)
    period-occurring = period-is-lcm ∙ lcms-same (in-occurring n f) (of-occurring n f) (cycle_lengths-positive n f)
