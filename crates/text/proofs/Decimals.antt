-- The digits that the kit writes are the decimal form, and how many there are.
use mathlib.Core.Path.{◌≡◌, ap₂, sym, ◌∙◌}
use mathlib.Core.List.{[], ◌∷◌, ◌++◌}
use Prim.Native.Nat.{ℕ, zero, suc, ◌+◌, ◌-◌, ◌*◌, ◌/◌, ◌%◌, ◌^◌, ◌≤◌, ◌<◌}
use native.Mathlib.Nat.{pow-suc, one-le-pow}
use native.Mathlib.Omega.{arith}
use lib.Dec.{ltb}
use lib.ListN.{length, length-append}
use borrow.Author.Tests.{lt-ltb, le-ltb, ltb-true, ltb-false}
use Rattle.io.specs.Digits.{hex_digit_ascii, last_digits, IsDigitCount}
use Rattle.lists.proofs.Tests.{by-test}
use Rattle.patterns.specs.Decimal.{digits_within, decimal}

pub within-one : (f x : ℕ) → x < 10 → digits_within f x ≡ (48 + x) ∷ []
unfolding digits_within
within-one zero x h = let e : x % 10 ≡ x = omega arith in rw e
within-one (suc f) x h = rw (lt-ltb x 10 h, digits_within)

pub within_more : (f x : ℕ) → 10 ≤ x → digits_within (suc f) x ≡ digits_within f (x / 10) ++ ((48 + x % 10) ∷ [])
unfolding digits_within
within_more f x h = rw (le-ltb x 10 h, digits_within)

glyph-digit : (x : ℕ) → x < 10 → hex_digit_ascii x ≡ 48 + x
glyph-digit x h = rw (lt-ltb x 10 h)

-- one digit less for a tenth
fewest-less : (k n : ℕ) → IsDigitCount 10 1 n (suc (suc k)) → IsDigitCount 10 1 (n / 10) (suc k)
fewest-less k n h =
    let many : n < 10 ^ suc k * 10 = rw (pow-suc 10 (suc k)) at h.1 in
    let e : suc (suc k) - 1 ≡ suc k = omega arith in
    let few : 10 ^ suc k ≤ n = rw e at (h.2 (omega arith)) in
    let more : 10 ^ k * 10 ≤ n = rw (pow-suc 10 k) at few in
    (omega arith, omega arith, λ g. let d : suc k - 1 ≡ k = omega arith in rw d (omega arith))

fewest-ten : (k n : ℕ) → IsDigitCount 10 1 n (suc (suc k)) → 10 ≤ n
fewest-ten k n h =
    let e : suc (suc k) - 1 ≡ suc k = omega arith in
    let few : 10 ^ suc k ≤ n = rw e at (h.2 (omega arith)) in
    omega (arith, rw (pow-suc 10 k) at few, one-le-pow k 10 (omega arith))

-- the fewest digits, as the kit spells them
pub digits-within : (k n f : ℕ) → IsDigitCount 10 1 n k → n ≤ f → last_digits 10 k n ≡ digits_within f n
digits-within zero n f h g = absurd (omega (arith, h.0))
digits-within (suc zero) n f h g =
    let e : n % 10 ≡ n = omega (arith, h.1) in
    rw (e, glyph-digit n (omega (arith, h.1))) (sym (within-one f n (omega (arith, h.1))))
digits-within (suc (suc k)) n zero h g = absurd (omega (arith, fewest-ten k n h))
digits-within (suc (suc k)) n (suc f) h g =
    let ten = fewest-ten k n h in
    let less = digits-within (suc k) (n / 10) f (fewest-less k n h) (omega arith) in
    ap₂ (λ l x. l ++ (x ∷ [])) less (glyph-digit (n % 10) (omega arith)) ∙ sym (within_more f n ten)

-- the digits of `io::decimal` are the decimal form
pub digits_decimal : (k n : ℕ) → IsDigitCount 10 1 n k → last_digits 10 k n ≡ decimal n
unfolding decimal
digits_decimal k n h = digits-within k n n h (omega arith)

within-length : (k f x : ℕ) → x < 10 ^ suc k → length (digits_within f x) ≤ suc k
unfolding digits_within
within-length k zero x h = omega arith
within-length zero (suc f) x h = rw (within-one (suc f) x (omega arith)) (omega arith)
within-length (suc k) (suc f) x h =
    let many : x < 10 ^ suc k * 10 = rw (pow-suc 10 (suc k)) at h in
    by-test (ltb x 10)
    (λ t. rw (within-one (suc f) x (ltb-true x 10 t)) (omega arith))
    (λ t. rw (within_more f x (ltb-false x 10 t))
    (omega (arith, within-length k f (x / 10) (omega arith), length-append (digits_within f (x / 10)) ((48 + x % 10) ∷ []))))

-- a number below a power of ten has no more digits than the power has noughts
pub decimal-length : (k x : ℕ) → x < 10 ^ suc k → length (decimal x) ≤ suc k
unfolding decimal
decimal-length k x h = within-length k x x h
