-- The least common multiple: of two positive numbers, and of a list of them. It divides every common multiple.
use mathlib.Core.Path.{◌≡◌, refl, ap, sym, ◌∙◌}
use mathlib.Core.List.{List, [], ◌∷◌, ◌++◌}
use Prim.Native.Nat.{ℕ, zero, suc, ◌+◌, ◌*◌, ◌/◌, ◌%◌, ◌^◌, ◌≤◌, ◌<◌, ◌∣◌}
use native.Mathlib.Nat.{mul-pos, mod-lt, lt_of_mul-lt-mul_left, one-mul, mul-one, mul_comm, mul_assoc, suc-mul, mul-le-mul_left, mul-le-mul_right, le_trans, pow-zero, pow-succ', pow-le-pow_right, dvd_refl, dvd-add, dvd-mul_left, dvd_trans, dvd-mod_iff, le_of_dvd, dvd_antisymm, one-dvd, mod-eq-zero_of_dvd, dvd_of_mod-eq-zero, mul-div_cancel'}
use native.Mathlib.Omega.{arith}
use lib.Dec.{eqb}
use lib.ListN.{length}
use borrow.Author.Tests.{eq-eqb, eqb-true, eqb-false}
use Rattle.lists.proofs.Tests.{◌∈◌, by-test, either}
use Rattle.lists.proofs.Comparison.{compare-lawful}
use Rattle.lists.specs.Select.{total}
use Rattle.lists.proofs.Permute.{Perm, perm-sym, perm-member, total-one, total_mono, member-total}
use Rattle.lists.proofs.Members.{in_head, in_tail, in-cons-cases, not-in-nil}
use Rattle.period_theory.specs.Multiples.{multiple_from, lcm, lcm_from}

-- every number of l is positive
abbrev pub Positive : List ℕ → Type 0
Positive l = (x : ℕ) → x ∈ l → 0 < x

-- c is a multiple of every number of l
abbrev pub Common : List ℕ → ℕ → Type 0
Common l c = (x : ℕ) → x ∈ l → x ∣ c

module _ (a b : ℕ) where
  -- r is a common multiple, not less than m and not more than n
  record MultipleBetween (m n r : ℕ) : Type 0 where
    from_m : m ≤ r
    to_n : r ≤ n
    of_a : a ∣ r
    of_b : b ∣ r

  multiple-here : {m n : ℕ} → m ≤ n → a ∣ m → b ∣ m → MultipleBetween m n m
  multiple-here h d e = record { from_m = omega arith; to_n = h; of_a = d; of_b = e }

  -- the search ends at once where b divides m
  found_here : (k m : ℕ) → b ∣ m → multiple_from a b k m ≡ m
  unfolding multiple_from
  found_here zero m e = refl
  found_here (suc k) m e = rw (eq-eqb (m % b) 0 (mod-eq-zero_of_dvd b e))

  -- where b divides the multiple m + j · a of a, the search from m on finds a common multiple no later
  found : (k m j : ℕ) → j ≤ k → a ∣ m → b ∣ m + j * a → MultipleBetween m (m + j * a) (multiple_from a b k m)
  unfolding multiple_from
  found k m zero h d e =
      let z : m + 0 * a ≡ m = omega arith in
      let f : b ∣ m = rw z at e in
      rw (found_here k m f) (multiple-here (omega arith) d f)
  found zero m (suc j) h d e = absurd (omega arith)
  found (suc k) m (suc j) h d e =
      by-test (eqb (m % b) 0)
      (λ t. rw t (multiple-here (omega arith) d (dvd_of_mod-eq-zero b (eqb-true (m % b) 0 t))))
      (λ t. rw t
      (let s : m + a + j * a ≡ m + suc j * a = omega (arith, suc-mul j a) in
      let r = found k (m + a) j (omega arith) (dvd-add a d (dvd_refl a)) (rw s e) in
      record { from_m = omega (arith, r.from_m); to_n = omega (arith, s, r.to_n); of_a = r.of_a; of_b = r.of_b }))

module _ (a b : ℕ) (h : 0 < a) (k : 0 < b) where
  -- a common multiple r among the first b multiples of a is not less than the least
  lcm-found : (q r : ℕ) → q * a ≡ r → 0 < r → q ≤ b → b ∣ r → MultipleBetween a b a r (lcm a b)
  unfolding lcm
  lcm-found zero r e p i d = absurd (omega (arith, e))
  lcm-found (suc j) r e p i d =
      let s : a + j * a ≡ r = omega (arith, e, suc-mul j a) in
      rw s at (found a b b a j (omega arith) (dvd_refl a) (rw s d))

  lcm-multiple : MultipleBetween a b a (a * b) (lcm a b)
  lcm-multiple = lcm-found b (a * b) (mul_comm b a) (mul-pos h k) (omega arith) (dvd-mul_left b a)

  pub lcm-positive : 0 < lcm a b
  lcm-positive = omega (arith, lcm-multiple.from_m)

  pub lcm-left : a ∣ lcm a b
  lcm-left = lcm-multiple.of_a

  pub lcm-right : b ∣ lcm a b
  lcm-right = lcm-multiple.of_b

  pub lcm-bound : lcm a b ≤ a * b
  lcm-bound = lcm-multiple.to_n

  -- a common multiple below the least is 0
  smaller-zero : (r : ℕ) → r < lcm a b → a ∣ r → b ∣ r → r ≡ 0
  smaller-zero r i d e =
      by-test (eqb r 0)
      (λ t. eqb-true r 0 t)
      (λ t. let n = eqb-false r 0 t in
      let q : a * (r / a) ≡ r = mul-div_cancel' a d in
      let s : a * (r / a) < a * b = omega (arith, lcm-bound) in
      let m = lcm-found (r / a) r (mul_comm (r / a) a ∙ q) (omega arith) (omega (arith, lt_of_mul-lt-mul_left a s)) e in
      absurd (omega (arith, m.to_n)))

  pub lcm-divides : (c : ℕ) → a ∣ c → b ∣ c → lcm a b ∣ c
  lcm-divides c d e =
      dvd_of_mod-eq-zero (lcm a b)
      (smaller-zero (c % lcm a b) (mod-lt c lcm-positive) ((dvd-mod_iff a lcm-left).1 d) ((dvd-mod_iff b lcm-right).1 e))

-- r is the least common multiple of a and the numbers of l
record LeastMultiple (a : ℕ) (l : List ℕ) (r : ℕ) : Type 0 where
  positive : 0 < r
  of_first : a ∣ r
  common : Common l r
  divides : (c : ℕ) → a ∣ c → Common l c → r ∣ c

from-least : (a : ℕ) (l : List ℕ) → 0 < a → Positive l → LeastMultiple a l (lcm_from a l)
unfolding lcm_from
from-least a [] k h = record { positive = k; of_first = dvd_refl a; common = λ y m. not-in-nil m; divides = λ c d e. d }
from-least a (x ∷ l) k h =
    let i = h x in_head in
    let r = from-least (lcm a x) l (lcm-positive a x k i) (λ y m. h y (in_tail m)) in
    record {
      positive = r.positive;
      of_first = dvd_trans a (lcm-left a x k i) r.of_first;
      common = λ y m. either (in-cons-cases m) (λ q. rw q (dvd_trans x (lcm-right a x k i) r.of_first)) (r.common y);
      divides = λ c d e. r.divides c (lcm-divides a x k i c d (e x in_head)) (λ y m. e y (in_tail m));
    }

module _ (l : List ℕ) (h : Positive l) where
  from_one : LeastMultiple 1 l (lcm_from 1 l)
  from_one = from-least 1 l (omega arith) h

  pub lcms-positive : 0 < lcm_from 1 l
  lcms-positive = from_one.positive

  pub lcms-common : Common l (lcm_from 1 l)
  lcms-common = from_one.common

  pub lcms-divides : (c : ℕ) → Common l c → lcm_from 1 l ∣ c
  lcms-divides c d = from_one.divides c (one-dvd c) d

  pub lcms-least : (c : ℕ) → 0 < c → Common l c → lcm_from 1 l ≤ c
  lcms-least c p d = le_of_dvd p (lcms-divides c d)

-- l has no numbers but those of m
abbrev pub Inside : List ℕ → List ℕ → Type 0
Inside l m = (x : ℕ) → x ∈ l → x ∈ m

pub lcms-inside : {l m : List ℕ} → Inside l m → Positive m → lcm_from 1 l ∣ lcm_from 1 m
lcms-inside {l} {m} i k = lcms-divides l (λ x e. k x (i x e)) (lcm_from 1 m) (λ x e. lcms-common m k x (i x e))

-- neither the order of the numbers matters nor how often one occurs
pub lcms-same : {l m : List ℕ} → Inside l m → Inside m l → Positive l → lcm_from 1 l ≡ lcm_from 1 m
lcms-same i j h = dvd_antisymm (lcms-inside i (λ x e. h x (j x e))) (lcms-inside j h)

pub lcms-perm : {l m : List ℕ} → Perm l m → Positive l → lcm_from 1 l ≡ lcm_from 1 m
lcms-perm p h = lcms-same (λ x. perm-member compare-lawful p) (λ x. perm-member compare-lawful (perm-sym p)) h

-- one number more
pub lcms-snoc : (a : ℕ) (l : List ℕ) (x : ℕ) → lcm_from a (l ++ x ∷ []) ≡ lcm (lcm_from a l) x
unfolding lcm_from
lcms-snoc a [] x = refl
lcms-snoc a (y ∷ l) x = lcms-snoc (lcm a y) l x

-- of numbers up to n it is at most n to the power of how many there are
lcms-below : (n a : ℕ) (l : List ℕ) → 0 < a → ((x : ℕ) → x ∈ l → (0 < x) × (x ≤ n)) → lcm_from a l ≤ a * n ^ length l
unfolding lcm_from
lcms-below n a [] k h = omega (arith, ap (λ i. a * i) (pow-zero n), mul-one a)
lcms-below n a (x ∷ l) k h =
    let i = h x in_head in
    let r = lcms-below n (lcm a x) l (lcm-positive a x k i.0) (λ y m. h y (in_tail m)) in
    let s : lcm a x * n ^ length l ≤ a * n * n ^ length l =
    mul-le-mul_right (n ^ length l) (le_trans (lcm-bound a x k i.0) (mul-le-mul_left a i.1)) in
    let e : a * n * n ^ length l ≡ a * n ^ suc (length l) = mul_assoc a n (n ^ length l) ∙ ap (λ q. a * q) (sym (pow-succ' n (length l))) in
    omega (arith, r, s, e)

-- of numbers that add up to at most n it is at most n to the power n
pub lcms-power : (n : ℕ) (l : List ℕ) → Positive l → total (λ x. x) l ≤ n → lcm_from 1 l ≤ n ^ n
lcms-power n l h t =
    let few : length l ≤ n = omega (arith, total-one l, total_mono (λ x. 1) (λ x. x) l h) in
    let below = lcms-below n 1 l (omega arith) (λ x m. (h x m, omega (arith, member-total (λ y. y) m))) in
    by-test (eqb n 0)
    (λ e. let z : length l ≡ n = omega (arith, eqb-true n 0 e) in omega (arith, below, one-mul (n ^ length l), ap (λ i. n ^ i) z))
    (λ e. omega (arith, below, one-mul (n ^ length l), pow-le-pow_right {n = n} (let z = eqb-false n 0 e in omega arith) few))
