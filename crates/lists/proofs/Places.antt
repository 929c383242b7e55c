-- Places in lists: where an entry stands, what stands from there on and what comes next; entries by index, and the one to the left; parts; ranges of numbers;
-- how often a number stands in a list.
use mathlib.Core.Path.{◌≡◌, refl, ap, ap₂, sym, ◌∙◌}
use mathlib.Core.List.Memᴰ
use mathlib.Core.List.{List, [], ◌∷◌, ◌++◌}
use mathlib.Core.Bool.{false}
use Prim.Native.Nat.{ℕ, zero, suc, ◌+◌, ◌-◌, ◌≤◌, ◌<◌, Ordering, compare}
use native.Mathlib.Nat.{sub-zero}
use native.Mathlib.Numerals.{add-one}
use native.Mathlib.Omega.{arith}
use lib.ListN.{length, take, drop, get_or, length-append}
use lib.Seq.{take-nil, drop-cons, length-take-le, get_or-take, get_or-append_seam}
use Rattle.lists.specs.Order.{same}
use Rattle.lists.specs.Select.{first, next, left_of, place, from, range, times}
use Rattle.lists.proofs.Tests.{◌∈◌, by-test, either, no_both}
use Rattle.lists.proofs.Members.{Decides, NoDup, one, empty, compare-decides, in_head, in_tail, in_moved, in-cons-cases, not-in-nil, in-or-not}

module _ {A : Type 0} where
  -- a list, cut at one of its members
  pub in_split : {x : A} {l : List A} → x ∈ l → (a : List A) × (b : List A) × (l ≡ a ++ (x ∷ b))
  in_split {l = []} x3 = elim x3 [ ]
  in_split {l = y ∷ l} (Memᴰ.head q) = ([], l, ap (λ z. z ∷ l) (sym q))
  in_split {l = y ∷ l} (Memᴰ.tail m) =
      let r = in_split m in
      (y ∷ r.0, r.1, ap (λ z. y ∷ z) r.2)

  -- the entry at an index is a member, and a member has an index
  pub in-index : (l : List A) (i : ℕ) (d : A) → i < length l → get_or l i d ∈ l
  in-index [] i d h = absurd (omega arith)
  in-index (x ∷ l) zero d h = in_head
  in-index (x ∷ l) (suc i) d h = in_tail (in-index l i d (omega arith))

  pub index_of : (d : A) {x : A} {l : List A} → x ∈ l → (i : ℕ) × (i < length l) × (get_or l i d ≡ x)
  index_of d {l = []} x3 = elim x3 [ ]
  index_of d {l = y ∷ l} (Memᴰ.head q) = (zero, omega arith, sym q)
  index_of d {l = y ∷ l} (Memᴰ.tail m) =
      let r = index_of d m in
      (suc r.0, omega (arith, r.1), r.2)

  -- without repetition, different indices have different entries
  pub nodup-index : {l : List A} (d : A) (i j : ℕ) → NoDup l → i < length l → j < length l → get_or l i d ≡ get_or l j d → i ≡ j
  nodup-index d i j empty h k e = absurd (omega arith)
  nodup-index d zero zero (one n u) h k e = refl
  nodup-index d zero (suc j) (one {x = x} {l = l} n u) h k e = absurd (n (in_moved (sym e) (in-index l j d (omega arith))))
  nodup-index d (suc i) zero (one {x = x} {l = l} n u) h k e = absurd (n (in_moved e (in-index l i d (omega arith))))
  nodup-index d (suc i) (suc j) (one n u) h k e = ap suc (nodup-index d i j u (omega arith) (omega arith) e)

  module _ {c : A → A → Ordering} (w : Decides c) where
    same-apart : (x y : A) (l : List A) → (x ∈ (y ∷ l) → ⊥) → same c x y ≡ false
    same-apart x y l n = by-test (same c x y) (λ t. absurd (n (Memᴰ.head (w.sound x y t)))) (λ t. t)

    -- a list, cut where one of its members first stands
    pub first-split : {x : A} {l : List A} → x ∈ l → (a : List A) × (b : List A) × (l ≡ a ++ (x ∷ b)) × (x ∈ a → ⊥)
    first-split {x = x} {l = []} x3 = elim x3 [ ]
    first-split {l = y ∷ l} (Memᴰ.head q) = ([], l, ap (λ z. z ∷ l) (sym q), λ m. not-in-nil m)
    first-split {x} {l = y ∷ l} (Memᴰ.tail m) =
        by-test (same c x y)
        (λ t. ([], l, ap (λ z. z ∷ l) (sym (w.sound x y t)), λ k. not-in-nil k))
        (λ t.
        let r = first-split m in (
          y ∷ r.0,
          r.1,
          ap (λ z. y ∷ z) r.2,
          λ k. either (in-cons-cases k) (λ q. no_both (ap (same c x) (sym q) ∙ w.self x) t) r.3,
        ))

    -- x first stands after a
    pub place-split : (a : List A) (x : A) (b : List A) → (x ∈ a → ⊥) → place c x (a ++ (x ∷ b)) ≡ length a
    place-split [] x b n = rw (w.self x)
    place-split (y ∷ a) x b n = rw (same-apart x y a n) (ap suc (place-split a x b (λ m. n (in_tail m))))

    pub from-split : (a : List A) (x : A) (b : List A) → (x ∈ a → ⊥) → from c x (a ++ (x ∷ b)) ≡ x ∷ b
    from-split [] x b n = rw (w.self x)
    from-split (y ∷ a) x b n = rw (same-apart x y a n) (from-split a x b (λ m. n (in_tail m)))

    pub next-split : (a : List A) (x : A) (b : List A) → (x ∈ a → ⊥) → next c x (a ++ (x ∷ b)) ≡ first b
    next-split [] x b n = rw (w.self x)
    next-split (y ∷ a) x b n = rw (same-apart x y a n) (next-split a x b (λ m. n (in_tail m)))

    -- a member's place is an index of the list, and x stands there
    pub place-index : (d : A) {x : A} {l : List A} → x ∈ l → (place c x l < length l) × (get_or l (place c x l) d ≡ x)
    place-index d {x} {l} m =
        let r = first-split m in
        let p : place c x l ≡ length r.0 = ap (place c x) r.2 ∙ place-split r.0 x r.1 r.3 in (
          omega (arith, ap length r.2, length-append r.0 (x ∷ r.1)),
          ap₂ (λ l i. get_or l i d) r.2 p ∙ get_or-append_seam r.0 x r.1 d,
        )

    -- without repetition, the entry at i has place i
    pub place_at : {l : List A} (d : A) (i : ℕ) → NoDup l → i < length l → place c (get_or l i d) l ≡ i
    place_at {l} d i u h =
        let r = place-index d (in-index l i d h) in
        nodup-index d (place c (get_or l i d) l) i u r.0 h r.1

    -- equal places, equal members
    pub place-injective : {x y : A} {l : List A} → x ∈ l → y ∈ l → place c x l ≡ place c y l → x ≡ y
    place-injective {x} {y} {l} m k e = sym (place-index x m).1 ∙ ap (λ i. get_or l i x) e ∙ (place-index x k).1

-- a part that begins at place a and ends at place e
pub drop-take : {A : Type 0} (a e : ℕ) (l : List A) → drop a (take e l) ≡ take (e - a) (drop a l)
drop-take zero e l = rw sub-zero
drop-take (suc a) zero l = let p : 0 - suc a ≡ 0 = omega arith in rw p
drop-take (suc a) (suc e) [] = rw take-nil
drop-take (suc a) (suc e) (x ∷ l) = let p : suc e - suc a ≡ e - a = omega arith in rw p (drop-take a e l)

-- To the left of a place.
module _ {A : Type 0} (d a : A) (l : List A) (i : ℕ) where
  pub left-entry : 0 < i → left_of d a l i ≡ get_or l (i - 1) d
  left-entry h =
      let e : i ≡ suc (i - 1) = omega arith in
      ap (left_of d a l) e

  -- the last of the entries before it
  pub left-taken : i ≤ length l → left_of d a (take i l) (length (take i l)) ≡ left_of d a l i
  left-taken h = ap (left_of d a (take i l)) (length-take-le i l h) ∙ get_or-take (suc i) (a ∷ l) i d (omega arith)

-- Ranges of numbers.
pub range_length : (a k : ℕ) → length (range a k) ≡ k
range_length a zero = refl
range_length a (suc k) = ap suc (range_length (suc a) k)

pub range-append : (a j k : ℕ) → range a (j + k) ≡ range a j ++ range (a + j) k
range-append a zero k =
    let e : 0 + k ≡ k = omega arith in
    let f : a + 0 ≡ a = omega arith in
    rw (e, f)
range-append a (suc j) k =
    let e : suc j + k ≡ suc (j + k) = omega arith in
    let f : suc a + j ≡ a + suc j = omega arith in
    rw (e, ← f) (ap (λ r. a ∷ r) (range-append (suc a) j k))

-- one more number at the end
pub range_last : (a k : ℕ) → range a (suc k) ≡ range a k ++ ((a + k) ∷ [])
range_last a k =
    let e : suc k ≡ k + 1 = omega arith in
    ap (range a) e ∙ range-append a k 1

pub get_d-range : (a k i d : ℕ) → i < k → get_or (range a k) i d ≡ a + i
get_d-range a zero i d h = absurd (omega arith)
get_d-range a (suc k) zero d h = omega arith
get_d-range a (suc k) (suc i) d h = omega (arith, get_d-range (suc a) k i d (omega arith))

-- How often.
pub times-append : (x : ℕ) (l m : List ℕ) → times x (l ++ m) ≡ times x l + times x m
times-append x [] m = omega arith
times-append x (y ∷ l) m = omega (arith, times-append x l m)

pub times-out : (x : ℕ) (l : List ℕ) → (x ∈ l → ⊥) → times x l ≡ 0
times-out x [] n = refl
times-out x (y ∷ l) n = rw (same-apart compare-decides x y l n) (omega (arith, times-out x l (λ m. n (in_tail m))))

pub times-in : {x : ℕ} {l : List ℕ} → x ∈ l → 0 < times x l
times-in {x = x} {l = []} x3 = elim x3 [ ]
times-in {x} {l = y ∷ l} (Memᴰ.head q) = rw (ap (same compare x) (sym q) ∙ compare-decides.self x) (omega arith)
times-in {x} {l = y ∷ l} (Memᴰ.tail m) = omega (arith, times-in m)

pub in-of-times : (x : ℕ) (l : List ℕ) → 0 < times x l → x ∈ l
in-of-times x l h = either (in-or-not compare-decides x l) (λ m. m) (λ n. let e = times-out x l n in absurd (omega arith))

-- once, where there is no repetition
pub times-nodup : {x : ℕ} {l : List ℕ} → NoDup l → x ∈ l → times x l ≡ 1
times-nodup {x = x} empty x4 = elim x4 [ ]
times-nodup {x} (one {x = y} {l = l} n d) (Memᴰ.head q) =
    rw (ap (same compare x) (sym q) ∙ compare-decides.self x) (omega (arith, times-out x l (λ m. n (in_moved q m))))
times-nodup {x} (one {x = y} {l = l} n d) (Memᴰ.tail m) =
    by-test (same compare x y)
    (λ t. absurd (n (in_moved (compare-decides.sound x y t) m)))
    (λ t. rw t (omega (arith, times-nodup d m)))

-- no number stands twice: no repetition
pub nodup-times : (l : List ℕ) → ((x : ℕ) → times x l ≤ 1) → NoDup l
nodup-times [] h = empty
nodup-times (x ∷ l) h =
    one {x = x} {l = l}
    (λ m. omega (arith, times-in m, rw (compare-decides.self x) at (h x)))
    (nodup-times l (λ y. omega (arith, h y)))

-- from a place on: what stands there, and what comes behind it
pub drop-one : {A : Type 0} (d : A) (s : List A) (i : ℕ) → i < length s → drop i s ≡ get_or s i d ∷ drop (i + 1) s
drop-one d s i h = rw (add-one i) (drop-cons s i d h)
