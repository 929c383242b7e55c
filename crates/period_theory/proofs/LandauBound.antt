-- No numbers that add up to at most n have a greater least common multiple than the table of Landau's function says, n at most 120.
use mathlib.Core.Path.{◌≡◌, refl, ap, ◌∙◌}
use mathlib.Core.Bool.{Bool}
use mathlib.Core.List.{List, [], ◌∷◌, map}
use Prim.Native.Nat.{ℕ, ◌-◌, ◌*◌, ◌^◌, ◌%◌, ◌≤◌, ◌<◌, ◌∣◌}
use native.Mathlib.Nat.{mul-pos, mul-le-mul_left, pow-le-pow_left, pow-le-pow_right, one-le-pow, dvd_trans, dvd_refl, dvd_of_mod-eq-zero, le_of_dvd}
use native.Mathlib.Omega.{arith}
use lib.Dec.{leb, eqb}
use borrow.Author.Tests.{le-leb, leb-true, leb-false, eqb-true}
use lib.ListN.{length, get_or, get_or-replicate}
use Rattle.lists.specs.Select.{total, range, some_of}
use Rattle.lists.proofs.Tests.{◌∈◌, by-test, either, cond-true, each_member, some-member}
use Rattle.lists.proofs.Members.{in_head, in_tail, in-cons-cases, not-in-nil, in_map, in-range}
use Rattle.lists.proofs.Permute.{total_mono, member-total}
use Rattle.lists.proofs.Places.{range_length, get_d-range}
use Rattle.lists.proofs.Gathering.{get_d_map}
use Rattle.patterns.specs.Census.{occurring}
use Rattle.patterns.specs.Period.{period}
use Rattle.map_theory.proofs.CensusTheory.{greatest-bound}
use Rattle.map_theory.proofs.Occurring.{occurring-positive, occurring-total}
use Rattle.period_theory.specs.Multiples.{lcm_from}
use Rattle.period_theory.specs.Landau.{primes, cost, taking, best, products, landau}
use Rattle.period_theory.proofs.CommonMultiples.{Positive, Common, lcms-least}
use Rattle.period_theory.proofs.Factors.{cost-most, cost-near, Stripped, stripped}
use Rattle.period_theory.proofs.TriedPeriods.{period-occurring}

small-exponent : (p e : ℕ) → 2 ≤ p → p ^ e ≤ 121 → e < 7
small-exponent p e h k =
    by-test (leb 7 e)
    (λ t. absurd (omega (arith, pow-le-pow_left {m = p} h 7, pow-le-pow_right {n = p} (omega arith) (leb-true 7 e t))))
    (λ t. leb-false 7 e t)

-- a power of p that s points have room for, and what the row says for the points that are left
taking-at-most : (row : List ℕ) (p e s : ℕ) → 2 ≤ p → s ≤ 120 → cost (p ^ e) ≤ s → p ^ e * get_or row (s - cost (p ^ e)) 0 ≤ best row p s
unfolding best
taking-at-most row p e s h k c =
    let q = p ^ e in
    let i = small-exponent p e h (omega (arith, cost-near q)) in
    let chosen : taking row s q ≡ q * get_or row (s - cost q) 0 = cond-true (q * get_or row (s - cost q) 0) 0 (le-leb (cost q) s c) in
    omega (arith, chosen, greatest-bound (in_map (λ e. taking row s (p ^ e)) (in-range 0 7 {x = e} (omega arith) (omega arith))))

-- one prime more
products-step : (p : ℕ) (ps : List ℕ) (e s : ℕ) → 2 ≤ p → s ≤ 120 → cost (p ^ e) ≤ s
    → p ^ e * get_or (products ps) (s - cost (p ^ e)) 0 ≤ get_or (products (p ∷ ps)) s 0
unfolding products
products-step p ps e s h k c =
    let row = products ps in
    let i : s < length (range 0 121) = omega (arith, range_length 0 121) in
    let read : get_or (map (best row p) (range 0 121)) s 0 ≡ best row p s =
    get_d_map (best row p) (range 0 121) s 0 0 i ∙ ap (best row p) (get_d-range 0 121 s 0 (omega arith) ∙ omega arith) in
    omega (arith, read, taking-at-most row p e s h k c)

-- every factor of a number of l, from 2 on, is divisible by a number of ps
abbrev FactorsIn : List ℕ → List ℕ → Type 0
FactorsIn ps l = (x : ℕ) → x ∈ l → (y : ℕ) → 2 ≤ y → y ∣ x → (p : ℕ) × (p ∈ ps) × (p ∣ y)

-- if there are no such factors, all numbers are 1
no-factors : (l : List ℕ) → Positive l → FactorsIn [] l → Common l 1
no-factors l h f x m =
    by-test (leb 2 x)
    (λ t. not-in-nil (f x m x (leb-true 2 x t) (dvd_refl x)).1)
    (λ t. let one : x ≡ 1 = omega (arith, leb-false 2 x t, h x m) in rw one (dvd_refl 1))

-- with the powers of p taken out, the numbers after p are enough
factors-left : {p : ℕ} {ps l : List ℕ} (r : Stripped p l) → FactorsIn (p ∷ ps) l → FactorsIn ps r.rest
factors-left r f x m y h d =
    let b = r.inside x m in
    let q = f b.0 b.1 y h (dvd_trans y d b.2) in
    either (in-cons-cases q.1)
    (λ e. absurd (r.free x m (dvd_trans _ (rw e at q.2) d)))
    (λ i. (q.0, i, q.2))

-- numbers that take at most s points have a common multiple that is not greater than the table says
common-multiple : (ps : List ℕ) → ((p : ℕ) → p ∈ ps → 2 ≤ p) → (s : ℕ) → s ≤ 120 → (l : List ℕ) → Positive l → FactorsIn ps l → total cost l ≤ s
    → (c : ℕ) × (0 < c) × (c ≤ get_or (products ps) s 0) × Common l c
unfolding products
common-multiple [] two s k l h f t =
    (1, omega arith, omega (arith, get_or-replicate {A = ℕ} 121 s 1 0 (omega arith)), no-factors l h f)
common-multiple (p ∷ ps) two s k l h f t =
    let r = stripped p (two p in_head) l h in
    let q = p ^ r.exponent in
    let i = common-multiple ps (λ y m. two y (in_tail m)) (s - cost q) (omega arith) r.rest r.positive (factors-left r f) (omega (arith, r.lighter)) in
    let j = products-step p ps r.exponent s (two p in_head) k (omega (arith, r.lighter)) in
    (q * i.0, mul-pos (one-le-pow r.exponent p (omega (arith, two p in_head))) i.1, omega (arith, mul-le-mul_left q i.2, j), r.multiple i.0 i.3)

primes-from-two : (p : ℕ) → p ∈ primes → 2 ≤ p
primes-from-two p m = leb-true 2 p (each_member (leb 2) {l = primes} refl m)

-- computed for every y from 2 to 120
primes-factors : (y : ℕ) → 2 ≤ y → y ≤ 120 → (p : ℕ) × (p ∈ primes) × (p ∣ y)
primes-factors y h k =
    let divides : ℕ → ℕ → Bool = λ y p. eqb (y % p) 0 in
    let r = some-member (divides y) primes (each_member (λ y. some_of (divides y) primes) {l = range 2 119} refl (in-range 2 119 {x = y} h (omega arith))) in
    (r.0, r.1, dvd_of_mod-eq-zero r.0 (eqb-true (y % r.0) 0 r.2))

pub lcm-at-most : (n : ℕ) → n ≤ 120 → (l : List ℕ) → Positive l → total (λ x. x) l ≤ n → lcm_from 1 l ≤ get_or landau n 0
unfolding landau
lcm-at-most n k l h t =
    let f : FactorsIn primes l =
    λ x m y b d. primes-factors y b (omega (arith, le_of_dvd (h x m) d, member-total (λ z. z) m)) in
    let c = common-multiple primes primes-from-two n k l h f (omega (arith, total_mono cost (λ x. x) l (λ x m. cost-most x))) in
    omega (arith, lcms-least l h c.0 c.1 c.3, c.2)

-- document 02, paper 9: "for n = 5 the length is 6, for n = 7 it is 12, for n = 0 it is 1"; and the greatest of all
pub landau-values : map (λ n. get_or landau n 0) (0 ∷ 5 ∷ 7 ∷ 120 ∷ []) ≡ 1 ∷ 6 ∷ 12 ∷ 5354228880 ∷ []
unfolding landau
landau-values = refl

pub lcm-below : (l : List ℕ) → Positive l → total (λ x. x) l ≤ 120 → lcm_from 1 l ≤ 5354228880
lcm-below l h t =
    let last : get_or landau 120 0 ≡ 5354228880 = ap (λ l. get_or l 3 0) landau-values in
    rw last at (lcm-at-most 120 (omega arith) l h t)

-- so for the period of a map
module _ (n : ℕ) (f : ℕ → ℕ) (inside : (x : ℕ) → x < n → f x < n) (small : n ≤ 120) where
  pub period-at-most : period n f ≤ get_or landau n 0
  period-at-most = rw (period-occurring n f inside) (lcm-at-most n small (occurring n f) (occurring-positive n f) (occurring-total n f inside))

  pub period-below : period n f ≤ 5354228880
  period-below = rw (period-occurring n f inside) (lcm-below (occurring n f) (occurring-positive n f) (omega (arith, occurring-total n f inside)))
