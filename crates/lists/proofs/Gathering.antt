-- Laws of lists that the theory of maps wants: mapping, gathering and keeping, permutations of numbers, and tables read by index.
use mathlib.Core.Path.{◌≡◌, refl, ap, ap₂, sym, ◌∙◌}
use mathlib.Core.List.Memᴰ
use mathlib.Core.List.{List, [], ◌∷◌, ◌++◌, map, map-append, head-eq_of_cons-eq, tail-eq_of_cons-eq}
use mathlib.Core.Bool.{Bool, true, cond}
use Prim.Native.Nat.{ℕ, zero, suc, ◌≤◌, ◌<◌, compare}
use native.Mathlib.Omega.{arith}
use lib.Dec.{leb}
use borrow.Author.Tests.{leb-true, leb-false}
use lib.ListN.{length, get_or, take}
use Rattle.lists.specs.Order.{same}
use Rattle.lists.specs.Select.{keep, gather, range, times}
use Rattle.lists.proofs.Tests.{◌∈◌, by-test, either, no_both}
use Rattle.lists.proofs.Comparison.{compare-lawful}
use Rattle.lists.proofs.Permute.{Perm, perm-sym, perm-member}
use Rattle.lists.proofs.Members.{NoDup, in_head, in_tail, in_moved, in-cons-cases, in-range, of_range, nodup_range, nodup-head, nodup-tail, nodup-left, nodup-right, keep_append, keep-none, gather_append, not-in-nil, in-or-not, compare-decides}
use Rattle.lists.proofs.Places.{range_length, times-nodup, times-out, in-of-times, nodup-times}
use Rattle.lists.proofs.Pigeon.{inside-perm}

module _ {A B : Type 0} where
  -- functions that agree on every member
  pub map_same : (g h : A → B) (l : List A) → ((x : A) → x ∈ l → g x ≡ h x) → map g l ≡ map h l
  map_same g h [] e = refl
  map_same g h (x ∷ l) e = ap₂ ◌∷◌ (e x in_head) (map_same g h l (λ y m. e y (in_tail m)))

  pub take-map : (n : ℕ) (g : A → B) (l : List A) → take n (map g l) ≡ map g (take n l)
  take-map zero g l = refl
  take-map (suc n) g [] = refl
  take-map (suc n) g (x ∷ l) = ap (λ r. g x ∷ r) (take-map n g l)

  -- every piece has one entry
  pub gather-single : (g : A → List B) (h : A → B) (l : List A) → ((x : A) → x ∈ l → g x ≡ h x ∷ []) → gather g l ≡ map h l
  gather-single g h [] e = refl
  gather-single g h (x ∷ l) e = ap₂ ◌++◌ (e x in_head) (gather-single g h l (λ y m. e y (in_tail m)))

  pub keep-gather : (p : B → Bool) (g : A → List B) (l : List A) → keep p (gather g l) ≡ gather (λ x. keep p (g x)) l
  keep-gather p g [] = refl
  keep-gather p g (x ∷ l) = keep_append p (g x) (gather g l) ∙ ap (λ r. keep p (g x) ++ r) (keep-gather p g l)

  -- a function that tells the members apart, on lists
  pub map_injective : (g : A → B) (l m : List A) → ((x y : A) → x ∈ l → y ∈ m → g x ≡ g y → x ≡ y) → map g l ≡ map g m → l ≡ m
  map_injective g [] [] h e = refl
  map_injective g [] (y ∷ m) h e = absurd (omega (arith, ap length e))
  map_injective g (x ∷ l) [] h e = absurd (omega (arith, ap length e))
  map_injective g (x ∷ l) (y ∷ m) h e =
      ap₂ ◌∷◌ (h x y in_head in_head (head-eq_of_cons-eq e))
      (map_injective g l m (λ a b i j. h a b (in_tail i) (in_tail j)) (tail-eq_of_cons-eq e))

pub map-gather : {A B C : Type 0} (h : B → C) (g : A → List B) (l : List A) → map h (gather g l) ≡ gather (λ x. map h (g x)) l
map-gather h g [] = refl
map-gather h g (x ∷ l) = map-append h (g x) (gather g l) ∙ ap (λ r. map h (g x) ++ r) (map-gather h g l)

-- gathering in two steps
pub gather-gather : {A B C : Type 0} (h : B → List C) (g : A → List B) (l : List A) → gather h (gather g l) ≡ gather (λ x. gather h (g x)) l
gather-gather h g [] = refl
gather-gather h g (x ∷ l) = gather_append h (g x) (gather g l) ∙ ap (λ r. gather h (g x) ++ r) (gather-gather h g l)

pub gather-map : {A B C : Type 0} (h : B → List C) (g : A → B) (l : List A) → gather h (map g l) ≡ gather (λ x. h (g x)) l
gather-map h g [] = refl
gather-map h g (x ∷ l) = ap (λ r. h (g x) ++ r) (gather-map h g l)

pub gather-same : {A B : Type 0} (g h : A → List B) (l : List A) → ((x : A) → x ∈ l → g x ≡ h x) → gather g l ≡ gather h l
gather-same g h [] e = refl
gather-same g h (x ∷ l) e = ap₂ ◌++◌ (e x in_head) (gather-same g h l (λ y m. e y (in_tail m)))

module _ {A : Type 0} where
  -- tests that agree on the members keep the same
  pub keep_same : (p q : A → Bool) (l : List A) → ((x : A) → x ∈ l → p x ≡ q x) → keep p l ≡ keep q l
  keep_same p q [] h = refl
  keep_same p q (x ∷ l) h = ap₂ (λ b r. cond b (x ∷ r) r) (h x in_head) (keep_same p q l (λ y m. h y (in_tail m)))

  -- exactly one member passes
  pub keep_one : (p : A → Bool) {l : List A} {x : A} → NoDup l → x ∈ l → p x ≡ true → ((y : A) → y ∈ l → p y ≡ true → y ≡ x) → keep p l ≡ x ∷ []
  keep_one p {l = []} d m e h = not-in-nil m
  keep_one p {l = y ∷ l} {x} d m e h =
      by-test (p y)
      (λ t. let q : y ≡ x = h y in_head t in
      rw t (ap₂ ◌∷◌ q (keep-none p l (λ z k. by-test (p z) (λ u. absurd (nodup-head d (in_moved (h z (in_tail k) u ∙ sym q) k))) (λ u. u)))))
      (λ t. rw t (either (in-cons-cases m)
      (λ q. no_both (sym (ap p q) ∙ e) t)
      (λ k. keep_one p {l = l} (nodup-tail d) k e (λ z i u. h z (in_tail i) u))))

-- a list of numbers that is not empty has a least member
pub least-member : (x : ℕ) (l : List ℕ) → (y : ℕ) × (y ∈ (x ∷ l)) × ((z : ℕ) → z ∈ (x ∷ l) → y ≤ z)
least-member x [] = (x, in_head, λ z m. either (in-cons-cases m) (λ e. omega arith) (λ k. not-in-nil k))
least-member x (y ∷ l) =
    let r = least-member y l in
    by-test (leb x r.0)
    (λ t. let h = leb-true x r.0 t in
    (x, in_head, λ z m. either (in-cons-cases m) (λ e. omega arith) (λ k. omega (arith, r.2 z k))))
    (λ t. let h = leb-false x r.0 t in
    (r.0, in_tail r.1, λ z m. either (in-cons-cases m) (λ e. omega arith) (λ k. r.2 z k)))

-- a permutation has no repetition where the list has none
pub perm-nodup : {l m : List ℕ} → Perm l m → NoDup l → NoDup m
perm-nodup {l} {m} p d =
    nodup-times m (λ x.
    either (in-or-not compare-decides x l)
    (λ k. omega (arith, times-nodup d k, p.totals (λ y. cond (same compare x y) 1 0)))
    (λ k. omega (arith, times-out x l k, p.totals (λ y. cond (same compare x y) 1 0))))

-- how often a number stands in a permutation
pub perm-times : {l m : List ℕ} → Perm l m → (x : ℕ) → times x l ≡ times x m
perm-times p x = p.totals (λ y. cond (same compare x y) 1 0)

-- n entries in which every number below n stands: the numbers below n in some order
pub once-perm : (n : ℕ) (l : List ℕ) → length l ≡ n → ((x : ℕ) → x < n → times x l ≡ 1) → Perm l (range 0 n)
once-perm n l e h =
    perm-sym (inside-perm (nodup_range 0 n)
    (λ x m. let r = of_range 0 n m in in-of-times x l (omega (arith, h x (omega arith))))
    (omega (arith, range_length 0 n)))

pub perm-once : (n : ℕ) (l : List ℕ) → Perm l (range 0 n) → (x : ℕ) → x < n → times x l ≡ 1
perm-once n l p x h = perm-times p x ∙ times-nodup (nodup_range 0 n) (in-range 0 n (omega arith) (omega arith))

-- a member of a permutation of the numbers below n is below n, and each of these is a member
pub below_of : {n : ℕ} {l : List ℕ} → Perm l (range 0 n) → {x : ℕ} → x ∈ l → x < n
below_of {n} p m = let r = of_range 0 n (perm-member compare-lawful p m) in omega arith

pub of-below : {n : ℕ} {l : List ℕ} → Perm l (range 0 n) → {x : ℕ} → x < n → x ∈ l
of-below {n} p h = perm-member compare-lawful (perm-sym p) (in-range 0 n (omega arith) (omega arith))

-- get_or of a mapped list
pub get_d_map : {A B : Type 0} (g : A → B) (l : List A) (i : ℕ) (d : A) (e : B) → i < length l → get_or (map g l) i e ≡ g (get_or l i d)
get_d_map g [] i d e h = absurd (omega arith)
get_d_map g (x ∷ l) zero d e h = refl
get_d_map g (x ∷ l) (suc i) d e h = get_d_map g l i d e (omega arith)

-- a piece of a gathered list without repetition has none
pub nodup-piece : {A B : Type 0} (g : A → List B) {x : A} {l : List A} → NoDup (gather g l) → x ∈ l → NoDup (g x)
nodup-piece {A = A} {B = B} g {l = []} d x6 = elim x6 [ ]
nodup-piece g {l = y ∷ l} d (Memᴰ.head q) = rw q (nodup-left (g y) (gather g l) d)
nodup-piece g {l = y ∷ l} d (Memᴰ.tail m) = nodup-piece g (nodup-right (g y) (gather g l) d) m

-- joined lists are equal and their first parts as long: the parts are equal
pub append-same-length : {A : Type 0} (a b l m : List A) → length a ≡ length b → a ++ l ≡ b ++ m → (a ≡ b) × (l ≡ m)
append-same-length [] [] l m h e = (refl, e)
append-same-length [] (y ∷ b) l m h e = absurd (omega arith)
append-same-length (x ∷ a) [] l m h e = absurd (omega arith)
append-same-length (x ∷ a) (y ∷ b) l m h e =
    let r = append-same-length a b l m (omega arith) (tail-eq_of_cons-eq e) in
    (ap₂ ◌∷◌ (head-eq_of_cons-eq e) r.0, r.1)
