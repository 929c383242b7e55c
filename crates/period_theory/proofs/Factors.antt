-- Numbers without their powers of a prime: the powers taken out of a list are one power, which with the rest takes no more points than the list.
use mathlib.Core.Path.{◌≡◌, ap, sym, ◌∙◌}
use mathlib.Core.List.{List, [], ◌∷◌}
use Prim.Native.Nat.{ℕ, zero, suc, ◌+◌, ◌-◌, ◌*◌, ◌/◌, ◌%◌, ◌^◌, ◌≤◌, ◌<◌, ◌∣◌}
use native.Mathlib.Omega.{arith}
use native.Mathlib.Nat.{one-mul, mul-one, mul_assoc, mul-le-mul_left, mul-le-mul_right, pow-zero, pow-succ', one-le-pow, div-lt_self, dvd_refl, dvd-mul_left, dvd-mul_right, dvd_trans, pos_of_dvd_of_pos, mod-eq-zero_of_dvd, dvd_of_mod-eq-zero, mul-div_cancel', mul-dvd-mul, mul-dvd-mul_right}
use lib.Dec.{leb, eqb}
use lib.Pow.{pow-add}
use borrow.Author.Tests.{eqb-true, eqb-false, leb-true, leb-false}
use Rattle.lists.specs.Select.{total}
use Rattle.lists.proofs.Tests.{◌∈◌, by-test, either}
use Rattle.lists.proofs.Members.{in_head, in_tail, in-cons-cases, not-in-nil}
use Rattle.period_theory.specs.Landau.{cost}
use Rattle.period_theory.proofs.CommonMultiples.{Positive, Common}

-- a number is 1 and costs nothing, or costs itself
cost-cases {ℓ} : {P : Type ℓ} (a : ℕ) → (a ≡ 1 → cost a ≡ 0 → P) → ((a ≡ 1 → ⊥) → cost a ≡ a → P) → P
cost-cases a f g =
    by-test (eqb a 1)
    (λ e. f (eqb-true a 1 e) (rw e))
    (λ e. g (eqb-false a 1 e) (rw e))

pub cost-most : (a : ℕ) → cost a ≤ a
cost-most a = cost-cases a (λ e c. omega arith) (λ n c. omega arith)

pub cost-near : (a : ℕ) → a ≤ cost a + 1
cost-near a = cost-cases a (λ e c. omega arith) (λ n c. omega arith)

pub cost-mul : (a b : ℕ) → 0 < a → 0 < b → cost a + cost b ≤ cost (a * b)
cost-mul a b h k =
    cost-cases a
    (λ e c. omega (arith, ap cost (ap (λ q. q * b) e ∙ one-mul b)))
    (λ n c.
    cost-cases b
    (λ f d. omega (arith, ap cost (ap (λ q. a * q) f ∙ mul-one a)))
    (λ m d.
    let u : a * 2 ≤ a * b = mul-le-mul_left a (omega arith) in
    let v : 2 * b ≤ a * b = mul-le-mul_right b (omega arith) in
    cost-cases (a * b) (λ g z. absurd (omega arith)) (λ g z. omega arith)))

-- one power of p, and numbers that p does not divide, each a divisor of a number of l; together they take no more points, and their common multiples are common multiples of l
pub record Stripped (p : ℕ) (l : List ℕ) : Type 0 where
  pub exponent : ℕ
  pub rest : List ℕ
  pub positive : Positive rest
  pub free : (y : ℕ) → y ∈ rest → p ∣ y → ⊥
  pub inside : (y : ℕ) → y ∈ rest → (x : ℕ) × (x ∈ l) × (y ∣ x)
  pub multiple : (c : ℕ) → Common rest c → Common l (p ^ exponent * c)
  pub lighter : cost (p ^ exponent) + total cost rest ≤ total cost l

-- a power of p, and a number that p does not divide, with the product x
record Factored (p x : ℕ) : Type 0 where
  exponent : ℕ
  rest : ℕ
  product : p ^ exponent * rest ≡ x
  positive : 0 < rest
  free : p ∣ rest → ⊥

-- every positive x has them: it is divided by p as long as p divides it; k bounds x, and falls
factored : (p : ℕ) → 2 ≤ p → (k x : ℕ) → x ≤ k → 0 < x → Factored p x
factored p two zero x b h = absurd (omega arith)
factored p two (suc k) x b h =
    by-test (eqb (x % p) 0)
    (λ e.
    let d = dvd_of_mod-eq-zero p (eqb-true (x % p) 0 e) in
    let less : x / p < x = div-lt_self h two in
    let i : x / p ∣ x = rw (mul-div_cancel' p d) at (dvd-mul_left (x / p) p) in
    let r = factored p two k (x / p) (omega arith) (pos_of_dvd_of_pos i h) in
    record {
      exponent = suc r.exponent;
      rest = r.rest;
      product = ap (λ q. q * r.rest) (pow-succ' p r.exponent) ∙ mul_assoc p (p ^ r.exponent) r.rest ∙ ap (λ q. p * q) r.product ∙ mul-div_cancel' p d;
      positive = r.positive;
      free = r.free;
    })
    (λ e.
    record {
      exponent = 0;
      rest = x;
      product = ap (λ q. q * x) (pow-zero p) ∙ one-mul x;
      positive = h;
      free = λ d. eqb-false (x % p) 0 e (mod-eq-zero_of_dvd p d);
    })

-- a smaller power divides a greater one
pow-divides : (p e f : ℕ) → e ≤ f → p ^ e ∣ p ^ f
pow-divides p e f h =
    let g : e + (f - e) ≡ f = omega arith in
    let q : p ^ f ≡ p ^ e * p ^ (f - e) = ap (λ i. p ^ i) (sym g) ∙ pow-add p e (f - e) in
    rw q (dvd-mul_right (p ^ e) (p ^ (f - e)))

-- of two powers the greater is a multiple of both and costs no more than both together
greater-power : (p e f : ℕ) → (g : ℕ) × (p ^ e ∣ p ^ g) × (p ^ f ∣ p ^ g) × (cost (p ^ g) ≤ cost (p ^ e) + cost (p ^ f))
greater-power p e f =
    by-test (leb e f)
    (λ u. (f, pow-divides p e f (leb-true e f u), dvd_refl (p ^ f), omega arith))
    (λ u. (e, dvd_refl (p ^ e), pow-divides p f e (let h = leb-false e f u in omega arith), omega arith))

-- the head's rest goes before the tail's, and the greater power is taken
strip-head : {p x : ℕ} {l : List ℕ} → 2 ≤ p → Factored p x → Stripped p l → Stripped p (x ∷ l)
strip-head {p} {x} {l} two r s =
    let g = greater-power p r.exponent s.exponent in
    record {
      exponent = g.0;
      rest = r.rest ∷ s.rest;
      positive = λ y m. either (in-cons-cases m) (λ q. rw q r.positive) (λ k. s.positive y k);
      free = λ y m d. either (in-cons-cases m) (λ q. r.free (rw q at d)) (λ k. s.free y k d);
      inside =
          λ y m.
          either (in-cons-cases m)
          (λ q. (x, in_head, rw (q, sym r.product) (dvd-mul_left r.rest (p ^ r.exponent))))
          (λ k. let i = s.inside y k in (i.0, in_tail i.1, i.2));
      multiple =
          λ c k y m.
          either (in-cons-cases m)
          (λ q. rw (q, sym r.product) (mul-dvd-mul (p ^ r.exponent) r.rest g.1 (k r.rest in_head)))
          (λ i. dvd_trans y (s.multiple c (λ z j. k z (in_tail j)) y i) (mul-dvd-mul_right (p ^ s.exponent) g.2 c));
      lighter =
          omega (arith, cost-mul (p ^ r.exponent) r.rest (one-le-pow r.exponent p (omega arith)) r.positive, ap cost r.product, g.3, s.lighter);
    }

pub stripped : (p : ℕ) → 2 ≤ p → (l : List ℕ) → Positive l → Stripped p l
stripped p two [] h =
    record {
      exponent = 0;
      rest = [];
      positive = h;
      free = λ y m. not-in-nil m;
      inside = λ y m. not-in-nil m;
      multiple = λ c k x m. not-in-nil m;
      lighter = omega (arith, ap cost (pow-zero p));
    }
stripped p two (x ∷ l) h = strip-head two (factored p two x x (omega arith) (h x in_head)) (stripped p two l (λ y m. h y (in_tail m)))
