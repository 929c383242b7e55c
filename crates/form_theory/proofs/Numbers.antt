-- Writing numbers as bytes and cutting bytes into numbers undo each other.
use mathlib.Core.Path.{◌≡◌, refl, ap, ◌∙◌}
use mathlib.Core.Bool.{true, ◌||◌}
use mathlib.Core.List.{List, [], ◌∷◌, ◌++◌}
use Prim.Native.Nat.{ℕ, ◌+◌, ◌-◌, ◌*◌, ◌/◌, ◌%◌, ◌≤◌, ◌<◌}
use native.Mathlib.Omega.{arith}
use native.Mathlib.Nat.{mod-lt, div-add-mod'}
use lib.Dec.{leb, ltb, eqb}
use lib.ListN.{length, length-append}
use borrow.Author.Tests.{lt-ltb, le-ltb, ltb-true, ltb-false, lt-leb, leb-false, ne_eqb, eqb-false}
use Rattle.lists.proofs.Tests.{by-test, choose-case}
use Rattle.patterns.specs.Written.{write_number, bytes}
use Rattle.patterns.specs.Reading.{done, mapped, cut}
use Rattle.patterns.proofs.Numbers.{write-short, write-long}
use Rattle.form_theory.proofs.Results.{Good, good-mapped, or-false}
use Rattle.form_theory.proofs.Bounds.{all_below, below-cons, below-head, below-tail, below-append}
use Rattle.lists.proofs.Members.{gather_append}

-- a number takes one or two bytes
pub write-length : (x : ℕ) → (0 < length (write_number x)) × (length (write_number x) ≤ 2)
write-length x =
    by-test (ltb x 128)
    (λ e. rw (write-short x (ltb-true x 128 e)) (omega arith, omega arith))
    (λ e. rw (write-long x (ltb-false x 128 e)) (omega arith, omega arith))

pub cut_short : (x : ℕ) (r : List ℕ) → x < 128 → cut (x ∷ r) ≡ mapped (x ∷◌) (cut r)
unfolding cut
cut_short x [] h = rw (lt-ltb x 128 h)
cut_short x (y ∷ l) h = rw (lt-ltb x 128 h, cut)

pub cut-long : (x y : ℕ) (r : List ℕ) → 128 ≤ x → 0 < y → y < 128 → cut (x ∷ y ∷ r) ≡ mapped ((x - 128 + y * 128) ∷◌) (cut r)
unfolding cut
cut-long x y r h k l = rw (le-ltb x 128 h, ne_eqb y 0 (λ e. omega arith), lt-leb 128 y l, cut)

-- cutting takes one written number off the front
pub cut-number : (x : ℕ) (r : List ℕ) → x < 16384 → cut (write_number x ++ r) ≡ mapped (x ∷◌) (cut r)
cut-number x r h =
    by-test (ltb x 128)
    (λ e. rw (write-short x (ltb-true x 128 e)) (cut_short x r (ltb-true x 128 e)))
    (λ e. let g : 128 ≤ x = ltb-false x 128 e in
    let d = div-add-mod' x 128 in
    let m : x % 128 < 128 = mod-lt x (omega arith) in
    let v : x % 128 + 128 - 128 + x / 128 * 128 ≡ x = omega arith in
    rw (write-long x g) (cut-long (x % 128 + 128) (x / 128) r (omega arith) (omega arith) (omega arith) ∙ ap (λ z. mapped (z ∷◌) (cut r)) v))

-- written numbers are cut as they were
pub cut-bytes : (xs : List ℕ) → all_below 16384 xs ≡ true → cut (bytes xs) ≡ done xs
unfolding cut
cut-bytes [] h = refl
cut-bytes (x ∷ xs) h = rw (cut-number x (bytes xs) (below-head 16384 x xs h), cut-bytes xs (below-tail 16384 x xs h))

-- b is the bytes of xs, in numbers of at most two bytes
abbrev pub Cut : List ℕ → List ℕ → Type 0
Cut b xs = (b ≡ bytes xs) × (all_below 16384 xs ≡ true)

short_back : (x : ℕ) (l xs : List ℕ) → x < 128 → Cut l xs → Cut (x ∷ l) (x ∷ xs)
short_back x l xs h c = (rw (write-short x h) (ap (x ∷◌) c.0), below-cons 16384 x xs (omega arith) c.1)

long-back : (x y : ℕ) (l xs : List ℕ) → 128 ≤ x → x < 256 → 0 < y → y < 128 → Cut l xs → Cut (x ∷ y ∷ l) ((x - 128 + y * 128) ∷ xs)
long-back x y l xs h k i j c =
    let v = x - 128 + y * 128 in
    let d = div-add-mod' v 128 in
    let m : v % 128 < 128 = mod-lt v (omega arith) in
    let low : v % 128 + 128 ≡ x = omega arith in
    let high : v / 128 ≡ y = omega arith in
    (rw (write-long v (omega arith)) (rw (low, high) (ap (λ r. x ∷ y ∷ r) c.0)), below-cons 16384 v xs (omega arith) c.1)

pub cut-good : (b : List ℕ) → all_below 256 b ≡ true → Good (Cut b) (cut b)
unfolding cut
cut-good [] h = (refl, refl)
cut-good (x ∷ []) h = choose-case (Good (Cut (x ∷ []))) (ltb x 128) (λ e. short_back x [] [] (ltb-true x 128 e) (refl, refl)) (λ e. tt)
cut-good (x ∷ y ∷ l) h =
    choose-case (Good (Cut (x ∷ y ∷ l))) (ltb x 128)
    (λ e. good-mapped (Cut (y ∷ l)) (Cut (x ∷ y ∷ l)) (cut (y ∷ l)) (x ∷◌) (cut-good (y ∷ l) (below-tail 256 x (y ∷ l) h))
    (λ xs c. short_back x (y ∷ l) xs (ltb-true x 128 e) c))
    (λ e. choose-case (Good (Cut (x ∷ y ∷ l))) (eqb y 0 || leb 128 y) (λ f. tt) (λ f.
    let g = or-false (eqb y 0) (leb 128 y) f in
    let i : 0 < y = omega (arith, eqb-false y 0 g.0) in
    good-mapped (Cut l) (Cut (x ∷ y ∷ l)) (cut l) ((x - 128 + y * 128) ∷◌) (cut-good l (below-tail 256 y l (below-tail 256 x (y ∷ l) h)))
    (λ xs c. long-back x y l xs (ltb-false x 128 e) (below-head 256 x (y ∷ l) h) i (leb-false 128 y g.1) c)))

pub bytes-append : (xs ys : List ℕ) → bytes (xs ++ ys) ≡ bytes xs ++ bytes ys
bytes-append xs ys = gather_append write_number xs ys

-- the bytes of a number are below 256
pub write-below : (x : ℕ) → x < 16384 → all_below 256 (write_number x) ≡ true
write-below x h =
    by-test (ltb x 128)
    (λ e. let g = ltb-true x 128 e in rw (write-short x g) (below-cons 256 x [] (omega arith) refl))
    (λ e.
    let d = div-add-mod' x 128 in
    let m : x % 128 < 128 = mod-lt x (omega arith) in
    rw (write-long x (ltb-false x 128 e)) (below-cons 256 (x % 128 + 128) (x / 128 ∷ []) (omega arith) (below-cons 256 (x / 128) [] (omega arith) refl)))

pub bytes_below : (xs : List ℕ) → all_below 16384 xs ≡ true → all_below 256 (bytes xs) ≡ true
bytes_below [] h = refl
bytes_below (x ∷ xs) h =
    below-append 256 (write_number x) (bytes xs) (write-below x (below-head 16384 x xs h)) (bytes_below xs (below-tail 16384 x xs h))

pub bytes-length : (xs : List ℕ) → length (bytes xs) ≤ 2 * length xs
bytes-length [] = omega arith
bytes-length (x ∷ xs) = omega (arith, length-append (write_number x) (bytes xs), (write-length x).1, bytes-length xs)
