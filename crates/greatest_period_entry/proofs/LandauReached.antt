-- The lengths of the table reach Landau's function: they add up to n, and their least common multiple is its number, n at most 120.
use mathlib.Core.Path.{◌≡◌, refl, ap, sym, ◌∙◌}
use mathlib.Core.List.{List, ◌++◌, map}
use mathlib.Core.Bool.{true}
use Prim.Native.Nat.{ℕ, zero, suc, ◌+◌, ◌-◌, ◌/◌, ◌%◌, ◌≤◌, ◌<◌}
use native.Mathlib.Omega.{arith}
use lib.Dec.{leb, eqb}
use lib.ListN.{length, get_or, replicate}
use borrow.Author.Tests.{leb-true}
use Rattle.lists.specs.Select.{each, range}
use Rattle.lists.proofs.Tests.{by-test, each_member}
use Rattle.lists.proofs.Members.{in-range}
use Rattle.lists.proofs.Places.{range_length, get_d-range}
use Rattle.lists.proofs.Gathering.{get_d_map}
use Rattle.system_theory.proofs.Sizes.{Upward, upward_nil, upward_cons, upward-from, sum}
use Rattle.period_theory.specs.Multiples.{lcm_from}
use Rattle.period_theory.specs.Landau.{landau}
use Rattle.greatest_period_entry.specs.LandauLengths.{masks, mask_lengths, long_lengths, landau_lengths}

-- the lengths of a number rise, before greater ones
mask-upward : (i m : ℕ) {l : List ℕ} → Upward (suc (suc i)) l → Upward 2 (mask_lengths i m l)
unfolding mask_lengths
mask-upward zero m u = u
mask-upward (suc i) m u =
    let later = upward-from {a = suc (suc i)} (omega arith) u in
    by-test (eqb (m % 2) 1) (λ t. rw t (mask-upward i (m / 2) (upward_cons (omega arith) later))) (λ t. rw t (mask-upward i (m / 2) later))

long-upward : (n : ℕ) → Upward 2 (long_lengths n)
unfolding long_lengths
long-upward n = mask-upward 28 (get_or masks n 0) upward_nil

-- Fixed points before other lengths.
ones-upward : (j : ℕ) {l : List ℕ} → Upward 1 l → Upward 1 (replicate j 1 ++ l)
ones-upward zero u = u
ones-upward (suc j) u = upward_cons {a = 1} {b = 1} (omega arith) (ones-upward j u)

ones-sum : (j : ℕ) (l : List ℕ) → sum (replicate j 1 ++ l) ≡ j + sum l
ones-sum zero l = omega arith
ones-sum (suc j) l = omega (arith, ones-sum j l)

-- as many as n points have room for
ones_fill : (n : ℕ) (l : List ℕ) → sum l ≤ n → sum (replicate (n - sum l) 1 ++ l) ≡ n
ones_fill n l h = omega (arith, ones-sum (n - sum l) l)

ones-lcm : (j : ℕ) (l : List ℕ) → lcm_from 1 (replicate j 1 ++ l) ≡ lcm_from 1 l
unfolding lcm_from
ones-lcm zero l = refl
ones-lcm (suc j) l = ones-lcm j l

-- computed over the whole table: the lengths do not take too many points, and have the least common multiples of Landau's function
long-fit : each (λ n. leb (sum (long_lengths n)) n) (range 0 121) ≡ true
unfolding long_lengths
long-fit = refl

long-lcms : map (λ n. lcm_from 1 (long_lengths n)) (range 0 121) ≡ landau
unfolding long_lengths lcm_from landau
long-lcms = refl

pub landau-upward : (n : ℕ) → Upward 1 (landau_lengths n)
unfolding landau_lengths
landau-upward n = ones-upward (n - sum (long_lengths n)) (upward-from (omega arith) (long-upward n))

module _ (n : ℕ) (small : n ≤ 120) where
  pub long-fits : sum (long_lengths n) ≤ n
  long-fits = leb-true (sum (long_lengths n)) n (each_member (λ n. leb (sum (long_lengths n)) n) long-fit (in-range 0 121 {x = n} (omega arith) (omega arith)))

  pub landau-sum : sum (landau_lengths n) ≡ n
  unfolding landau_lengths
  landau-sum = ones_fill n (long_lengths n) long-fits

  pub landau-lcm : lcm_from 1 (landau_lengths n) ≡ get_or landau n 0
  unfolding landau_lengths
  landau-lcm =
      let i : n < length (range 0 121) = omega (arith, range_length 0 121) in
      let place : n ≡ get_or (range 0 121) n 0 = omega (arith, get_d-range 0 121 n 0 (omega arith)) in
      ones-lcm (n - sum (long_lengths n)) (long_lengths n)
      ∙ ap (λ k. lcm_from 1 (long_lengths k)) place
      ∙ sym (get_d_map (λ n. lcm_from 1 (long_lengths n)) (range 0 121) n 0 0 i)
      ∙ ap (λ l. get_or l n 0) long-lcms
