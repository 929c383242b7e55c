-- Membership in lists that are joined, mapped, gathered, kept, counted out or cleared of repetitions; and lists without repetition.
use mathlib.Core.Path.{◌≡◌, refl, ap, sym, ◌∙◌}
use mathlib.Core.Logic.{◌⊎◌, inl, inr}
use mathlib.Core.List.Memᴰ
use mathlib.Core.List.{List, [], ◌∷◌, ◌++◌, map, append_assoc}
use mathlib.Core.Bool.{Bool, true, false, not}
use Prim.Native.Nat.{ℕ, zero, suc, ◌+◌, ◌≤◌, ◌<◌, Ordering, compare}
use native.Mathlib.Omega.{arith}
use lib.Dec.{eqb}
use borrow.Author.Tests.{eqb-true, eqb-false}
use lib.ListN.{replicate}
use Rattle.lists.specs.Order.{same}
use Rattle.lists.specs.Select.{keep, gather, range, once}
pub use Rattle.lists.specs.Members.{NoDup, empty, one}
use Rattle.lists.proofs.Tests.{◌∈◌, by-test, either, no_both, not-of-true}
use Rattle.lists.proofs.Comparison.{Lawful, same_true, same_self, compare-lawful}

-- `same c` says true exactly of equal things
pub record Decides {A : Type 0} (c : A → A → Ordering) : Type 0 where
  pub sound : (x y : A) → same c x y ≡ true → x ≡ y
  pub self : (x : A) → same c x x ≡ true

module _ {A : Type 0} where
  pub lawful-decides : {c : A → A → Ordering} → Lawful c → Decides c
  lawful-decides w = record { sound = same_true w; self = same_self w }

  pub in_head : {x : A} {l : List A} → x ∈ (x ∷ l)
  in_head = Memᴰ.head refl

  pub in_tail : {x y : A} {l : List A} → x ∈ l → x ∈ (y ∷ l)
  in_tail m = Memᴰ.tail m

  pub not-in-nil {ℓ} : {P : Type ℓ} {x : A} → x ∈ [] → P
  not-in-nil m = absurd (Memᴰ.not-nil m)

  pub in-cons-cases : {x y : A} {l : List A} → x ∈ (y ∷ l) → (x ≡ y) ⊎ (x ∈ l)
  in-cons-cases m = Memᴰ.cases_cons m

  pub in_moved : {x y : A} {l : List A} → x ≡ y → x ∈ l → y ∈ l
  in_moved e m = Memᴰ.cast (sym e) m

  pub in_list : {x : A} {l m : List A} → l ≡ m → x ∈ l → x ∈ m
  in_list {x} e k = rw (sym e) k

  pub in-single : {x y : A} → x ∈ (y ∷ []) → x ≡ y
  in-single m = either (in-cons-cases m) (λ e. e) (λ k. not-in-nil k)

  pub in_append_left : {x : A} {l : List A} (m : List A) → x ∈ l → x ∈ (l ++ m)
  in_append_left m k = Memᴰ.append_left m k

  pub in_append_right : {x : A} (l : List A) {m : List A} → x ∈ m → x ∈ (l ++ m)
  in_append_right l k = Memᴰ.append_right l k

  pub in-append-cases : {x : A} (l : List A) {m : List A} → x ∈ (l ++ m) → (x ∈ l) ⊎ (x ∈ m)
  in-append-cases l k = Memᴰ.append_cases l k

  pub in-middle : {x : A} (l m : List A) → x ∈ (l ++ (x ∷ m))
  in-middle l m = in_append_right l in_head

  -- the other members stay when the middle is taken out
  pub in_without : {x y : A} (l m : List A) → (x ≡ y → ⊥) → x ∈ (l ++ (y ∷ m)) → x ∈ (l ++ m)
  in_without l m h k =
      either (in-append-cases l k) (λ i. in_append_left m i)
      (λ i. either (in-cons-cases i) (λ e. absurd (h e)) (λ j. in_append_right l j))

  pub in-keep : (p : A → Bool) {x : A} {l : List A} → x ∈ l → p x ≡ true → x ∈ keep p l
  in-keep p {l = []} x6 e = elim x6 [ ]
  in-keep p {l = y ∷ l} (Memᴰ.head q) e = rw (sym (ap p q) ∙ e) (Memᴰ.head q)
  in-keep p {l = y ∷ l} (Memᴰ.tail m) e =
      by-test (p y) (λ t. rw t (Memᴰ.tail (in-keep p m e))) (λ t. rw t (in-keep p m e))

  pub of-keep : (p : A → Bool) (l : List A) {x : A} → x ∈ keep p l → (x ∈ l) × (p x ≡ true)
  of-keep p [] m = not-in-nil m
  of-keep p (y ∷ l) m =
      by-test (p y)
      (λ t. either (in-cons-cases (rw t at m))
      (λ q. (Memᴰ.head q, ap p q ∙ t))
      (λ k. let r = of-keep p l k in (in_tail r.0, r.1)))
      (λ t. let r = of-keep p l (rw t at m) in (in_tail r.0, r.1))

  -- nothing is dropped where all pass, and all is where none does
  pub keep_all : (p : A → Bool) (l : List A) → ((x : A) → x ∈ l → p x ≡ true) → keep p l ≡ l
  keep_all p [] h = refl
  keep_all p (x ∷ l) h = rw (h x in_head) (ap (λ r. x ∷ r) (keep_all p l (λ y m. h y (in_tail m))))

  pub keep-none : (p : A → Bool) (l : List A) → ((x : A) → x ∈ l → p x ≡ false) → keep p l ≡ []
  keep-none p [] h = refl
  keep-none p (x ∷ l) h = rw (h x in_head) (keep-none p l (λ y m. h y (in_tail m)))

  pub keep_append : (p : A → Bool) (l m : List A) → keep p (l ++ m) ≡ keep p l ++ keep p m
  keep_append p [] m = refl
  keep_append p (x ∷ l) m = by-test (p x) (λ t. rw t (ap (λ r. x ∷ r) (keep_append p l m))) (λ t. rw t (keep_append p l m))

  pub of-replicate : (n : ℕ) {a x : A} → x ∈ replicate n a → x ≡ a
  of-replicate zero m = not-in-nil m
  of-replicate (suc n) m = either (in-cons-cases m) (λ e. e) (λ k. of-replicate n k)

  pub of-once : (c : A → A → Ordering) (l : List A) {x : A} → x ∈ once c l → x ∈ l
  of-once c [] m = m
  of-once c (y ∷ l) m =
      either (in-cons-cases m) (λ q. Memᴰ.head q)
      (λ k. in_tail (of-once c l (of-keep (λ z. not (same c y z)) (once c l) k).0))

  pub in-once : {c : A → A → Ordering} → Decides c → {x : A} {l : List A} → x ∈ l → x ∈ once c l
  in-once {c = c} w {x = x} {l = []} x3 = elim x3 [ ]
  in-once w {l = y ∷ l} (Memᴰ.head q) = Memᴰ.head q
  in-once {c} w {x} {l = y ∷ l} (Memᴰ.tail m) =
      by-test (same c y x)
      (λ t. Memᴰ.head (sym (w.sound y x t)))
      (λ t. in_tail (in-keep (λ z. not (same c y z)) (in-once w m) (ap not t)))

  -- whether x stands in l is decided
  pub in-or-not : {c : A → A → Ordering} → Decides c → (x : A) (l : List A) → (x ∈ l) ⊎ (x ∈ l → ⊥)
  in-or-not w x [] = inr (λ m. not-in-nil m)
  in-or-not {c} w x (y ∷ l) =
      by-test (same c x y)
      (λ t. inl (Memᴰ.head (w.sound x y t)))
      (λ t. either (in-or-not w x l) (λ m. inl (in_tail m))
      (λ h. inr (λ m. either (in-cons-cases m) (λ q. no_both (ap (same c x) (sym q) ∙ w.self x) t) h)))

  pub nodup-head : {x : A} {l : List A} → NoDup (x ∷ l) → x ∈ l → ⊥
  nodup-head (one h d) = h

  pub nodup-tail : {x : A} {l : List A} → NoDup (x ∷ l) → NoDup l
  nodup-tail (one h d) = d

  pub nodup-single : (x : A) → NoDup (x ∷ [])
  nodup-single x = one (λ m. not-in-nil m) empty

  -- two lists without repetition and without a common member
  pub nodup_append : {l m : List A} → NoDup l → NoDup m → ((x : A) → x ∈ l → x ∈ m → ⊥) → NoDup (l ++ m)
  nodup_append empty e h = e
  nodup_append (one {x = x} {l = l} n d) e h =
      one
      (λ k. either (in-append-cases l k) n (λ i. h x in_head i))
      (nodup_append d e (λ y i j. h y (in_tail i) j))

  pub nodup-left : (l m : List A) → NoDup (l ++ m) → NoDup l
  nodup-left [] m d = empty
  nodup-left (x ∷ l) m d = one (λ k. nodup-head d (in_append_left m k)) (nodup-left l m (nodup-tail d))

  pub nodup-right : (l m : List A) → NoDup (l ++ m) → NoDup m
  nodup-right [] m d = d
  nodup-right (x ∷ l) m d = nodup-right l m (nodup-tail d)

  pub nodup-apart : (l : List A) {m : List A} {x : A} → NoDup (l ++ m) → x ∈ l → x ∈ m → ⊥
  nodup-apart [] d i j = not-in-nil i
  nodup-apart (y ∷ l) d i j =
      either (in-cons-cases i)
      (λ e. nodup-head d (in_append_right l (in_moved e j)))
      (λ k. nodup-apart l (nodup-tail d) k j)

  -- the middle of a list without repetition stands nowhere else
  pub nodup_middle : {x : A} (l m : List A) → NoDup (l ++ (x ∷ m)) → x ∈ (l ++ m) → ⊥
  nodup_middle {x} l m d k =
      either (in-append-cases l k) (λ i. nodup-apart l d i in_head) (λ i. nodup-head (nodup-right l (x ∷ m) d) i)

  pub nodup-keep : (p : A → Bool) {l : List A} → NoDup l → NoDup (keep p l)
  nodup-keep p empty = empty
  nodup-keep p (one {x = x} {l = l} n d) =
      by-test (p x)
      (λ t. rw t (one (λ k. n (of-keep p l k).0) (nodup-keep p d)))
      (λ t. rw t (nodup-keep p d))

  -- `once` leaves no repetition
  pub nodup-once : {c : A → A → Ordering} → Decides c → (l : List A) → NoDup (once c l)
  nodup-once w [] = empty
  nodup-once {c} w (x ∷ l) =
      one
      (λ k. no_both (w.self x) (not-of-true (same c x x) (of-keep (λ y. not (same c x y)) (once c l) k).1))
      (nodup-keep (λ y. not (same c x y)) (nodup-once w l))

-- the comparison of numbers
pub compare-decides : Decides compare
compare-decides = lawful-decides compare-lawful

pub in-range : (a k : ℕ) {x : ℕ} → a ≤ x → x < a + k → x ∈ range a k
in-range a zero h i = absurd (omega arith)
in-range a (suc k) {x} h i =
    by-test (eqb a x)
    (λ t. Memᴰ.head (sym (eqb-true a x t)))
    (λ t. let n = eqb-false a x t in in_tail (in-range (suc a) k (omega arith) (omega arith)))

pub of_range : (a k : ℕ) {x : ℕ} → x ∈ range a k → (a ≤ x) × (x < a + k)
of_range a zero m = not-in-nil m
of_range a (suc k) m =
    either (in-cons-cases m)
    (λ e. (omega arith, omega arith))
    (λ i. let r = of_range (suc a) k i in (omega arith, omega arith))

pub nodup_range : (a k : ℕ) → NoDup (range a k)
nodup_range a zero = empty
nodup_range a (suc k) = one {x = a} {l = range (suc a) k} (λ m. let r = of_range (suc a) k m in omega arith) (nodup_range (suc a) k)

module _ {A B : Type 0} where
  pub in_map : (f : A → B) {x : A} {l : List A} → x ∈ l → f x ∈ map f l
  in_map f (Memᴰ.head q) = Memᴰ.head (ap f q)
  in_map f (Memᴰ.tail m) = Memᴰ.tail (in_map f m)

  pub of_map : (f : A → B) (l : List A) {y : B} → y ∈ map f l → (x : A) × (x ∈ l) × (y ≡ f x)
  of_map f [] m = not-in-nil m
  of_map f (x ∷ l) m =
      either (in-cons-cases m)
      (λ q. (x, in_head, q))
      (λ k. let r = of_map f l k in (r.0, in_tail r.1, r.2))

  pub in-gather : (f : A → List B) {x : A} {l : List A} {y : B} → x ∈ l → y ∈ f x → y ∈ gather f l
  in-gather f {l = []} {y = y} x6 k = elim x6 [ ]
  in-gather f {l = z ∷ l} (Memᴰ.head q) k = in_append_left (gather f l) (in_list (ap f q) k)
  in-gather f {l = z ∷ l} (Memᴰ.tail m) k = in_append_right (f z) (in-gather f m k)

  pub of-gather : (f : A → List B) (l : List A) {y : B} → y ∈ gather f l → (x : A) × (x ∈ l) × (y ∈ f x)
  of-gather f [] m = not-in-nil m
  of-gather f (x ∷ l) m =
      either (in-append-cases (f x) m)
      (λ k. (x, in_head, k))
      (λ k. let r = of-gather f l k in (r.0, in_tail r.1, r.2))

  -- f tells the members of l apart
  pub nodup-map : (f : A → B) {l : List A} → ((x y : A) → x ∈ l → y ∈ l → f x ≡ f y → x ≡ y) → NoDup l → NoDup (map f l)
  nodup-map f h empty = empty
  nodup-map f h (one {x = x} {l = l} n d) =
      one
      (λ k. let r = of_map f l k in n (in_moved (sym (h x r.0 in_head (in_tail r.1) r.2)) r.1))
      (nodup-map f (λ y z i j. h y z (in_tail i) (in_tail j)) d)

  -- each piece is without repetition, and no two pieces have a common member
  pub nodup-gather : (f : A → List B) {l : List A} → NoDup l → ((x : A) → x ∈ l → NoDup (f x))
      → ((x y : A) (z : B) → x ∈ l → y ∈ l → z ∈ f x → z ∈ f y → x ≡ y) → NoDup (gather f l)
  nodup-gather f empty g h = empty
  nodup-gather f (one {x = x} {l = l} n d) g h =
      nodup_append (g x in_head)
      (nodup-gather f d (λ y i. g y (in_tail i)) (λ y z u i j. h y z u (in_tail i) (in_tail j)))
      (λ u i j.
      let r = of-gather f l j in
      n (in_moved (sym (h x r.0 u in_head (in_tail r.1) i r.2)) r.1))

  pub gather_append : (f : A → List B) (l m : List A) → gather f (l ++ m) ≡ gather f l ++ gather f m
  gather_append f [] m = refl
  gather_append f (x ∷ l) m = ap (λ r. f x ++ r) (gather_append f l m) ∙ sym (append_assoc (f x) (gather f l) (gather f m))
