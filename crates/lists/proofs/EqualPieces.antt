-- Gathered lists whose pieces all have m entries: their length, their places as pairs of numbers, rows and columns; and all pairs in order, which are a range.
use mathlib.Core.Path.{◌≡◌, refl, ap, ap₂, subst, sym, ◌∙◌}
use mathlib.Core.List.{List, [], ◌∷◌, ◌++◌, map}
use Prim.Native.Nat.{ℕ, zero, suc, ◌+◌, ◌*◌, ◌/◌, ◌%◌, ◌≤◌, ◌<◌}
use native.Mathlib.Nat.{add-zero, add-suc, zero-mul, mul-zero, suc-mul, mul-le-mul_right, div-add-mod', div-lt_iff_lt-mul, mod-lt}
use native.Mathlib.Omega.{arith}
use lib.ListN.{length, get_or, length-append, get_or-append}
use lib.Seq.{get_or-append-add}
use Rattle.lists.specs.Select.{gather, range}
use Rattle.lists.proofs.Tests.{◌∈◌}
use Rattle.lists.proofs.Permute.{Perm, perm-path, perm-trans, perm-append, perm-gather-append}
use Rattle.lists.proofs.Members.{in_head, in_tail}
use Rattle.lists.proofs.Places.{range-append}
use Rattle.lists.proofs.Gathering.{gather-single}

module _ {A B : Type 0} where
  pub pieces-length : (g : A → List B) (m : ℕ) (l : List A) → ((x : A) → x ∈ l → length (g x) ≡ m) → length (gather g l) ≡ length l * m
  pieces-length g m [] h = omega (arith, zero-mul m)
  pieces-length g m (x ∷ l) h =
      omega (arith, length-append (g x) (gather g l), h x in_head, pieces-length g m l (λ y k. h y (in_tail k)), suc-mul (length l) m)

  -- place i * m + j is place j of the piece of entry i
  pub piece-at : (g : A → List B) (m : ℕ) (l : List A) → ((x : A) → x ∈ l → length (g x) ≡ m) → (a : A) (b : B) (i j : ℕ) → i < length l → j < m
      → get_or (gather g l) (i * m + j) b ≡ get_or (g (get_or l i a)) j b
  piece-at g m [] h a b i j k q = absurd (omega arith)
  piece-at g m (x ∷ l) h a b zero j k q =
      let e : 0 * m + j ≡ j = omega (arith, zero-mul m) in
      rw e (get_or-append (g x) (gather g l) b j (omega (arith, h x in_head)))
  piece-at g m (x ∷ l) h a b (suc i) j k q =
      let e : suc i * m + j ≡ length (g x) + (i * m + j) = omega (arith, suc-mul i m, h x in_head) in
      rw e (get_or-append-add (g x) (gather g l) (i * m + j) b ∙ piece-at g m l (λ y r. h y (in_tail r)) a b i j (omega arith) q)

  -- all pieces are empty
  pub pieces-empty : (l : List A) → gather {B = B} (λ x. []) l ≡ []
  pieces-empty [] = refl
  pieces-empty (x ∷ l) = pieces-empty l

-- by rows or by columns
pub perm-columns : {A B C : Type 0} (h : A → B → C) (k : List A) (l : List B) → Perm (gather (λ x. map (h x) l) k) (gather (λ y. map (λ x. h x y) k) l)
perm-columns h k [] = perm-path (pieces-empty k)
perm-columns h k (y ∷ l) =
    perm-trans (perm-gather-append (λ x. h x y ∷ []) (λ x. map (h x) l) k)
    (perm-append (perm-path (gather-single (λ x. h x y ∷ []) (λ x. h x y) k (λ x m. refl))) (perm-columns h k l))

-- a range, moved by n
moved-from : (n a k : ℕ) → map (λ y. n + y) (range a k) ≡ range (n + a) k
moved-from n a zero = refl
moved-from n a (suc k) = ap ((n + a) ∷◌) (moved-from n (suc a) k ∙ ap (λ b. range b k) (add-suc n a))

pub range_moved : (n k : ℕ) → map (λ y. n + y) (range 0 k) ≡ range n k
range_moved n k = moved-from n 0 k ∙ ap (λ b. range b k) (add-zero n)

-- all pairs of a number below n and one below m, in order
pairs-from : (m a n : ℕ) → gather (λ x. map (λ y. x * m + y) (range 0 m)) (range a n) ≡ range (a * m) (n * m)
pairs-from m a zero = ap (range (a * m)) (sym (zero-mul m))
pairs-from m a (suc n) =
    let count : m + n * m ≡ suc n * m = omega (arith, suc-mul n m) in
    ap₂ ◌++◌ (range_moved (a * m) m) (pairs-from m (suc a) n ∙ ap (λ b. range b (n * m)) (suc-mul a m))
    ∙ sym (range-append (a * m) m (n * m))
    ∙ ap (range (a * m)) count

pub pairs-range : (n m : ℕ) → gather (λ x. map (λ y. x * m + y) (range 0 m)) (range 0 n) ≡ range 0 (n * m)
pairs-range n m = pairs-from m 0 n ∙ ap (λ b. range b (n * m)) (zero-mul m)

-- piece x of n pieces of m ends within all of them
pub piece-within : {n x : ℕ} (m : ℕ) → x < n → x * m + m ≤ n * m
piece-within {n} {x} m h = omega (arith, mul-le-mul_right {m = suc x} {n = n} m h, suc-mul x m)

-- a pair of numbers is below the product of their bounds
pub pair-below : {n m x y : ℕ} → x < n → y < m → x * m + y < n * m
pair-below {n} {m} {x} {y} h k = omega (arith, piece-within m h)

-- what holds of every pair holds of every number below the product of the bounds
pub by-pair {ℓ} : (P : ℕ → Type ℓ) (n m : ℕ) → ((x y : ℕ) → x < n → y < m → P (x * m + y)) → (i : ℕ) → i < n * m → P i
by-pair P n zero f i h = absurd (omega (arith, mul-zero n))
by-pair P n (suc m) f i h =
    let some : 0 < suc m = omega arith in
    subst P (div-add-mod' i (suc m)) (f (i / suc m) (i % suc m) ((div-lt_iff_lt-mul some).1 h) (mod-lt i some))
