-- Lists that rise strictly by a comparison: joined, gathered, mapped and kept lists that rise, and that the members alone determine such a list.
use mathlib.Core.Path.{◌≡◌, refl, ap, ap₂, sym, ◌∙◌}
use mathlib.Core.List.{List, [], ◌∷◌, ◌++◌, map}
use mathlib.Core.Bool.{Bool}
use Prim.Native.Nat.{ℕ, zero, suc, Ordering, compare}
use native.Mathlib.Omega.{arith}
use Rattle.lists.specs.Select.{keep, gather, range}
use Rattle.lists.proofs.Tests.{◌∈◌, by-test, either}
use Rattle.lists.proofs.Comparison.{Lawful, lt-asymmetric, lt-not-eq, eq-of-path, compare-lt}
use Rattle.lists.proofs.Members.{NoDup, one, empty, in_head, in_tail, in-cons-cases, not-in-nil, in_append_right, in-append-cases, of-keep, of_map, of-gather, of_range}

-- each entry stands in the relation R to every later one
pub data Pairs {A : Type 0} (R : A → A → Type 0) : List A → Type 0 where
  pairs_nil : Pairs R []
  pairs_cons : {x : A} {l : List A} → ((y : A) → y ∈ l → R x y) → Pairs R l → Pairs R (x ∷ l)

-- each entry is less than every later one
pub data Rising {A : Type 0} (c : A → A → Ordering) : List A → Type 0 where
  rising_nil : Rising c []
  rising_cons : {x : A} {l : List A} → ((y : A) → y ∈ l → c x y ≡ Ordering.lt) → Rising c l → Rising c (x ∷ l)

module _ {A : Type 0} {c : A → A → Ordering} where
  pub rising-head : {x y : A} {l : List A} → Rising c (x ∷ l) → y ∈ l → c x y ≡ Ordering.lt
  rising-head {y = y} (rising_cons h r) m = h y m

  pub rising-tail : {x : A} {l : List A} → Rising c (x ∷ l) → Rising c l
  rising-tail (rising_cons h r) = r

  pub rising-single : (x : A) → Rising c (x ∷ [])
  rising-single x = rising_cons (λ y m. not-in-nil m) rising_nil

  -- both rise, and everything of the first is below everything of the second
  pub rising-append : {l m : List A} → Rising c l → Rising c m → ((x y : A) → x ∈ l → y ∈ m → c x y ≡ Ordering.lt) → Rising c (l ++ m)
  rising-append rising_nil s h = s
  rising-append (rising_cons {x = x} {l = l} k r) s h =
      rising_cons
      (λ y m. either (in-append-cases l m) (λ i. k y i) (λ i. h x y in_head i))
      (rising-append r s (λ y z i j. h y z (in_tail i) j))

  -- the second part of a joined list that rises
  pub rising-right : (l m : List A) → Rising c (l ++ m) → Rising c m
  rising-right [] m r = r
  rising-right (x ∷ l) m r = rising-right l m (rising-tail r)

  pub rising-between : (l : List A) {m : List A} {x y : A} → Rising c (l ++ m) → x ∈ l → y ∈ m → c x y ≡ Ordering.lt
  rising-between [] r i j = not-in-nil i
  rising-between (z ∷ l) {y = y} r i j =
      either (in-cons-cases i)
      (λ e. ap (λ t. c t y) e ∙ rising-head r (in_append_right l j))
      (λ k. rising-between l (rising-tail r) k j)

  pub rising-keep : (p : A → Bool) {l : List A} → Rising c l → Rising c (keep p l)
  rising-keep p rising_nil = rising_nil
  rising-keep p (rising_cons {x = x} {l = l} h r) =
      by-test (p x)
      (λ t. rw t (rising_cons (λ y m. h y (of-keep p l m).0) (rising-keep p r)))
      (λ t. rw t (rising-keep p r))

  -- nothing is less than itself: no repetition
  pub rising-nodup : ((x : A) → c x x ≡ Ordering.lt → ⊥) → {l : List A} → Rising c l → NoDup l
  rising-nodup n rising_nil = empty
  rising-nodup n (rising_cons {x = x} h r) = one (λ m. n x (h x m)) (rising-nodup n r)

  -- a rising list has any relation that less implies among its members
  pub rising-pairs : (R : A → A → Type 0) {l : List A} → Rising c l → ((x y : A) → x ∈ l → y ∈ l → c x y ≡ Ordering.lt → R x y) → Pairs R l
  rising-pairs R rising_nil h = pairs_nil
  rising-pairs R (rising_cons {x = x} k r) h =
      pairs_cons
      (λ y m. h x y in_head (in_tail m) (k y m))
      (rising-pairs R r (λ y z i j. h y z (in_tail i) (in_tail j)))

-- two rising lists with the same members are the same list
pub rising-unique : {A : Type 0} {c : A → A → Ordering} → Lawful c → {l m : List A} → Rising c l → Rising c m
    → ((x : A) → x ∈ l → x ∈ m) → ((x : A) → x ∈ m → x ∈ l) → l ≡ m
rising-unique w rising_nil rising_nil h k = refl
rising-unique w rising_nil (rising_cons {x = y} b s) h k = not-in-nil (k y in_head)
rising-unique w (rising_cons {x = x} a r) rising_nil h k = not-in-nil (h x in_head)
rising-unique w (rising_cons {x = x} {l = l} a r) (rising_cons {x = y} {l = m} b s) h k =
    let e : x ≡ y =
    either (in-cons-cases (h x in_head)) (λ q. q) (λ i. either (in-cons-cases (k y in_head)) (λ q. sym q) (λ j. lt-asymmetric w x y (a y j) (b x i))) in
    ap₂ ◌∷◌ e
    (rising-unique w r s
    (λ z i. either (in-cons-cases (h z (in_tail i))) (λ q. lt-not-eq (a z i) (eq-of-path w (e ∙ sym q))) (λ j. j))
    (λ z i. either (in-cons-cases (k z (in_tail i))) (λ q. lt-not-eq (b z i) (eq-of-path w (sym e ∙ sym q))) (λ j. j)))

module _ {A B : Type 0} {d : B → B → Ordering} where
  -- f keeps less among the members
  pub rising-map : {c : A → A → Ordering} (f : A → B) {l : List A} → ((x y : A) → x ∈ l → y ∈ l → c x y ≡ Ordering.lt → d (f x) (f y) ≡ Ordering.lt)
      → Rising c l → Rising d (map f l)
  rising-map f h rising_nil = rising_nil
  rising-map f h (rising_cons {x = x} {l = l} k r) =
      rising_cons
      (λ y m. let s = of_map f l m in ap (d (f x)) s.2 ∙ h x s.0 in_head (in_tail s.1) (k s.0 s.1))
      (rising-map f (λ y z i j. h y z (in_tail i) (in_tail j)) r)

  -- the pieces rise, and everything of an earlier piece is below everything of a later one
  pub rising-gather : (f : A → List B) {l : List A} → Pairs (λ x y. (u v : B) → u ∈ f x → v ∈ f y → d u v ≡ Ordering.lt) l
      → ((x : A) → x ∈ l → Rising d (f x)) → Rising d (gather f l)
  rising-gather f pairs_nil h = rising_nil
  rising-gather f (pairs_cons {x = x} {l = l} k p) h =
      rising-append (h x in_head) (rising-gather f p (λ y i. h y (in_tail i)))
      (λ u v i j. let s = of-gather f l j in k s.0 s.1 u v i s.2)

  -- the same, where the list of the pieces' keys rises
  pub rising-gather-rising : {c : A → A → Ordering} (f : A → List B) {l : List A} → Rising c l
      → ((x y : A) → x ∈ l → y ∈ l → c x y ≡ Ordering.lt → (u v : B) → u ∈ f x → v ∈ f y → d u v ≡ Ordering.lt)
      → ((x : A) → x ∈ l → Rising d (f x)) → Rising d (gather f l)
  rising-gather-rising f r h k = rising-gather f (rising-pairs (λ x y. (u v : B) → u ∈ f x → v ∈ f y → d u v ≡ Ordering.lt) r h) k

pub rising-range : (a k : ℕ) → Rising compare (range a k)
rising-range a zero = rising_nil
rising-range a (suc k) = rising_cons {x = a} {l = range (suc a) k} (λ y m. let r = of_range (suc a) k m in compare-lt a y (omega arith)) (rising-range (suc a) k)
