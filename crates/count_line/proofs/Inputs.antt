-- The inputs that are lines of a count from 0 to 14, told by their length and their bytes.
use mathlib.Core.Path.{◌≡◌, refl, ap, ap₂, ◌∙◌}
use mathlib.Core.Logic.{◌⊎◌, inl, inr, ⊎_elim}
use mathlib.Core.List.{List, [], ◌∷◌, ◌++◌}
use Prim.Native.Nat.{ℕ, zero, suc, ◌+◌, ◌-◌, ◌/◌, ◌%◌, ◌<◌, ◌≤◌}
use native.Mathlib.Omega.{arith}
use lib.Dec.{ltb}
use lib.ListN.{length, get_or}
use borrow.Author.Tests.{ltb-true, ltb-false}
use Rattle.lists.proofs.Tests.{by-test}
use Rattle.std.specs.Prelude.{Some, None}
use Rattle.patterns.specs.ListingText.{count_line}
use Rattle.text.proofs.Decimals.{within-one, within_more}
use Rattle.count_line.specs.Count.{Reads, good, bad}

-- one digit and a newline
pub record OneDigit (s : List ℕ) : Type 0 where
  pub two : length s ≡ 2
  pub newline : get_or s 1 0 ≡ 10
  pub least : 48 ≤ get_or s 0 0
  pub most : get_or s 0 0 ≤ 57

-- a 1, a digit from 0 to 4, and a newline
pub record TwoDigits (s : List ℕ) : Type 0 where
  pub three : length s ≡ 3
  pub ten : get_or s 0 0 ≡ 49
  pub least : 48 ≤ get_or s 1 0
  pub most : get_or s 1 0 ≤ 52
  pub newline : get_or s 2 0 ≡ 10

two_bytes : (s : List ℕ) → length s ≡ 2 → s ≡ get_or s 0 0 ∷ get_or s 1 0 ∷ []
two_bytes [] e = absurd (omega arith)
two_bytes (a ∷ []) e = absurd (omega arith)
two_bytes (a ∷ b ∷ []) e = refl
two_bytes (a ∷ b ∷ d ∷ s) e = absurd (omega arith)

three-bytes : (s : List ℕ) → length s ≡ 3 → s ≡ get_or s 0 0 ∷ get_or s 1 0 ∷ get_or s 2 0 ∷ []
three-bytes [] e = absurd (omega arith)
three-bytes (a ∷ []) e = absurd (omega arith)
three-bytes (a ∷ b ∷ []) e = absurd (omega arith)
three-bytes (a ∷ b ∷ d ∷ []) e = refl
three-bytes (a ∷ b ∷ d ∷ f ∷ s) e = absurd (omega arith)

form-one : (s : List ℕ) (n : ℕ) → n < 10 → s ≡ (48 + n) ∷ 10 ∷ [] → OneDigit s
form-one s n h e =
    let first : get_or s 0 0 ≡ 48 + n = ap (λ l. get_or l 0 0) e in
    record { two = ap length e; newline = ap (λ l. get_or l 1 0) e; least = omega arith; most = omega arith }

form-two : (s : List ℕ) (n : ℕ) → n ≤ 14 → 10 ≤ n → s ≡ (48 + n / 10) ∷ (48 + n % 10) ∷ 10 ∷ [] → TwoDigits s
form-two s n h k e =
    let first : get_or s 0 0 ≡ 48 + n / 10 = ap (λ l. get_or l 0 0) e in
    let second : get_or s 1 0 ≡ 48 + n % 10 = ap (λ l. get_or l 1 0) e in
    record { three = ap length e; ten = omega arith; least = omega arith; most = omega arith; newline = ap (λ l. get_or l 2 0) e }

-- the line of a count of one digit, and of two
line-one : (n : ℕ) → n < 10 → count_line n ≡ (48 + n) ∷ 10 ∷ []
unfolding count_line
line-one n h = ap (λ l. l ++ (10 ∷ [])) (within-one n n h)

line-two : (n : ℕ) → 10 ≤ n → n < 100 → count_line n ≡ (48 + n / 10) ∷ (48 + n % 10) ∷ 10 ∷ []
unfolding count_line
line-two zero h k = absurd (omega arith)
line-two (suc n) h k =
    ap (λ l. l ++ (10 ∷ [])) (within_more n (suc n) h ∙ ap (λ l. l ++ ((48 + suc n % 10) ∷ [])) (within-one n (suc n / 10) (omega arith)))

-- the line of a count from 0 to 14 has one of the two forms
pub line_form : (s : List ℕ) (n : ℕ) → n ≤ 14 → s ≡ count_line n → OneDigit s ⊎ TwoDigits s
line_form s n h e =
    by-test (ltb n 10)
    (λ t. let g = ltb-true n 10 t in inl (form-one s n g (e ∙ line-one n g)))
    (λ t. let g = ltb-false n 10 t in inr (form-two s n h g (e ∙ line-two n g (omega arith))))

-- a line of one digit is the line of its count
pub one-digit : (s : List ℕ) → OneDigit s → s ≡ count_line (get_or s 0 0 - 48)
one-digit s h =
    let first : 48 + (get_or s 0 0 - 48) ≡ get_or s 0 0 = omega arith in
    rw (line-one (get_or s 0 0 - 48) (omega arith), first)
    (two_bytes s h.two ∙ ap (λ x. get_or s 0 0 ∷ x ∷ []) h.newline)

-- a line of two digits is the line of its count
pub two_digits : (s : List ℕ) → TwoDigits s → s ≡ count_line (get_or s 1 0 - 38)
two_digits s h =
    let tens : 48 + (get_or s 1 0 - 38) / 10 ≡ 49 = omega arith in
    let ones : 48 + (get_or s 1 0 - 38) % 10 ≡ get_or s 1 0 = omega arith in
    rw (line-two (get_or s 1 0 - 38) (omega arith) (omega arith), tens, ones)
    (three-bytes s h.three ∙ ap₂ (λ x y. x ∷ get_or s 1 0 ∷ y ∷ []) h.ten h.newline)

-- what has neither form is the line of no count from 0 to 14
pub no_line : (s : List ℕ) → (OneDigit s → ⊥) → (TwoDigits s → ⊥) → (n : ℕ) → n ≤ 14 → s ≡ count_line n → ⊥
no_line s one two n h e = ⊎_elim one two (line_form s n h e)

-- a line of a count is short
pub line-short : (n : ℕ) → n ≤ 14 → length (count_line n) ≤ 3
line-short n h = ⊎_elim (λ o. omega (arith, o.two)) (λ o. omega (arith, o.three)) (line_form (count_line n) n h refl)

-- what a line of either form says, and any other input
pub reads_one : (s : List ℕ) (n : ℕ) → n ≡ get_or s 0 0 - 48 → length s ≡ 2 → get_or s 1 0 ≡ 10 → 48 ≤ get_or s 0 0 → get_or s 0 0 ≤ 57 → Reads s (Some n)
reads_one s n e two newline least most =
    good (omega arith) (rw e (one-digit s (record { two = two; newline = newline; least = least; most = most })))

pub reads_two : (s : List ℕ) (n : ℕ) → n + 38 ≡ get_or s 1 0 → length s ≡ 3 → get_or s 0 0 ≡ 49 → 48 ≤ get_or s 1 0 → get_or s 1 0 ≤ 52 → get_or s 2 0 ≡ 10
    → Reads s (Some n)
reads_two s n e three ten least most newline =
    let k : n ≡ get_or s 1 0 - 38 = omega arith in
    good (omega arith) (rw k (two_digits s (record { three = three; ten = ten; least = least; most = most; newline = newline })))

pub reads_none : (s : List ℕ) → (length s ≡ 2 → get_or s 1 0 ≡ 10 → 48 ≤ get_or s 0 0 → get_or s 0 0 ≤ 57 → ⊥)
    → (length s ≡ 3 → get_or s 0 0 ≡ 49 → 48 ≤ get_or s 1 0 → get_or s 1 0 ≤ 52 → get_or s 2 0 ≡ 10 → ⊥) → Reads s None
reads_none s one two = bad (no_line s (λ o. one o.two o.newline o.least o.most) (λ o. two o.three o.ten o.least o.most o.newline))
