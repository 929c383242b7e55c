-- Sorted lists and insertion sort: its result is sorted and a permutation, and a list has only one sorted permutation.
use mathlib.Core.Path.{◌≡◌, refl, ap, ap₂, ◌∙◌}
use mathlib.Core.Logic.{◌⊎◌, inl, inr}
use mathlib.Core.Bool.{Bool, true}
use mathlib.Core.List.Memᴰ
use mathlib.Core.List.{List, [], ◌∷◌, ◌++◌, map}
use Prim.Native.Nat.{ℕ, Ordering}
use native.Mathlib.Omega.{arith}
use lib.ListN.{length}
use Rattle.lists.specs.Order.{at_most}
use Rattle.lists.specs.Sort.{insert, sort}
use Rattle.lists.specs.Select.{each, total}
use Rattle.lists.proofs.Tests.{by-test, either, each-cons, each-head, each-true, each_member, ◌∈◌}
use Rattle.lists.proofs.Comparison.{Lawful, at_most-self, at_most-trans, at_most-anti, at_most-turned}
use Rattle.lists.proofs.Permute.{Perm, perm-refl, perm-sym, perm-trans, perm-cons, perm-tail, perm-swap, perm-length, perm-each, perm-each-same}

-- every entry is at most every later one
pub data Sorted {A : Type 0} (c : A → A → Ordering) : List A → Type 0 where
  sorted_nil : Sorted c []
  sorted_cons : {x : A} {l : List A} → each (at_most c x) l ≡ true → Sorted c l → Sorted c (x ∷ l)

module _ {A : Type 0} {c : A → A → Ordering} where
  -- the first entry is at most every other
  pub sorted_head : {x y : A} {l : List A} → Sorted c (x ∷ l) → y ∈ l → at_most c x y ≡ true
  sorted_head {x} (sorted_cons a s) m = each_member (at_most c x) a m

  pub sorted_tail : {x : A} {l : List A} → Sorted c (x ∷ l) → Sorted c l
  sorted_tail (sorted_cons a s) = s

  pub sorted-one : (x : A) → Sorted c (x ∷ [])
  sorted-one x = sorted_cons refl sorted_nil

  -- two sorted lists, each entry of the first at most each of the second: together they are sorted
  pub sorted-append : {l m : List A} → Sorted c l → Sorted c m → ((x y : A) → x ∈ l → y ∈ m → at_most c x y ≡ true) → Sorted c (l ++ m)
  sorted-append sorted_nil t h = t
  sorted-append {m = m} (sorted_cons {x = x} {l = l} a s) t h =
      sorted_cons
      (each-true (at_most c x) (l ++ m) (λ y k. either (Memᴰ.append_cases l k) (λ k'. each_member (at_most c x) a k') (λ k'. h x y (Memᴰ.head refl) k')))
      (sorted-append s t (λ y z k k'. h y z (Memᴰ.tail k) k'))

  -- the parts of a sorted list are sorted, and each entry of the first is at most each of the second
  pub sorted-left : (l m : List A) → Sorted c (l ++ m) → Sorted c l
  sorted-left [] m s = sorted_nil
  sorted-left (x ∷ l) m (sorted_cons a s) =
      sorted_cons (each-true (at_most c x) l (λ y k. each_member (at_most c x) a (Memᴰ.append_left m k))) (sorted-left l m s)

  pub sorted-across : (l : List A) {m : List A} {x y : A} → Sorted c (l ++ m) → x ∈ l → y ∈ m → at_most c x y ≡ true
  sorted-across [] s k k' = absurd (Memᴰ.not-nil k)
  sorted-across (z ∷ l) {m} {x} {y} (sorted_cons a s) k k' =
      either (Memᴰ.cases_cons k)
      (λ q. ap (λ t. at_most c t y) q ∙ each_member (at_most c z) a (Memᴰ.append_right l k'))
      (λ k''. sorted-across l s k'' k')

module _ {A : Type 0} (c : A → A → Ordering) where
  -- inserting adds one entry
  pub insert-perm : (x : A) (l : List A) → Perm (insert c x l) (x ∷ l)
  insert-perm x [] = perm-refl
  insert-perm x (y ∷ l) =
      by-test (at_most c x y)
      (λ e. rw e perm-refl)
      (λ e. rw e (perm-trans (perm-cons y (insert-perm x l)) (perm-swap y x l)))

  pub insert-each : (p : A → Bool) (x : A) (l : List A) → p x ≡ true → each p l ≡ true → each p (insert c x l) ≡ true
  insert-each p x l e f = perm-each p (perm-sym (insert-perm x l)) (each-cons p l e f)

  pub insert-member : (x : A) (l : List A) {y : A} → y ∈ insert c x l → (y ≡ x) ⊎ (y ∈ l)
  insert-member x [] m = Memᴰ.cases_cons m
  insert-member x (z ∷ l) m =
      by-test (at_most c x z)
      (λ e. Memᴰ.cases_cons (rw e at m))
      (λ e. either (Memᴰ.cases_cons (rw e at m))
      (λ q. inr (Memᴰ.head q))
      (λ k. either (insert-member x l k) (λ q. inl q) (λ k'. inr (Memᴰ.tail k'))))

  -- sorting permutes
  pub sort-perm : (l : List A) → Perm (sort c l) l
  sort-perm [] = perm-refl
  sort-perm (x ∷ l) = perm-trans (insert-perm x (sort c l)) (perm-cons x (sort-perm l))

  pub sort-length : (l : List A) → length (sort c l) ≡ length l
  sort-length l = perm-length (sort-perm l)

  pub sort-total : (g : A → ℕ) (l : List A) → total g (sort c l) ≡ total g l
  sort-total g l = (sort-perm l).totals g

  pub sort-each : (p : A → Bool) (l : List A) → each p (sort c l) ≡ each p l
  sort-each p l = perm-each-same p (sort-perm l)

  -- the members of the sorted list are those of the list
  pub sort-member : (l : List A) {x : A} → x ∈ sort c l → x ∈ l
  sort-member [] m = m
  sort-member (y ∷ l) m = either (insert-member y (sort c l) m) (λ q. Memᴰ.head q) (λ k. Memᴰ.tail (sort-member l k))

module _ {A : Type 0} {c : A → A → Ordering} (w : Lawful c) where
  each-further : (x y : A) (l : List A) → at_most c x y ≡ true → each (at_most c y) l ≡ true → each (at_most c x) l ≡ true
  each-further x y l e a = each-true (at_most c x) l (λ z m. at_most-trans w x y z e (each_member (at_most c y) a m))

  -- one more entry before a sorted list: it is enough that it is at most the first
  pub sorted_before : {x y : A} {l : List A} → at_most c x y ≡ true → Sorted c (y ∷ l) → Sorted c (x ∷ y ∷ l)
  sorted_before {x} {y} {l} e (sorted_cons a s) = sorted_cons (each-cons (at_most c x) l e (each-further x y l e a)) (sorted_cons a s)

  -- inserting keeps a list sorted
  pub insert-sorted : (x : A) {l : List A} → Sorted c l → Sorted c (insert c x l)
  insert-sorted x sorted_nil = sorted-one x
  insert-sorted x (sorted_cons {x = y} {l = l} a s) =
      by-test (at_most c x y)
      (λ e. rw e (sorted_before e (sorted_cons a s)))
      (λ e. rw e (sorted_cons (insert-each c (at_most c y) x l (at_most-turned w x y e) a) (insert-sorted x s)))

  -- the result of sorting is sorted
  pub sort_sorted : (l : List A) → Sorted c (sort c l)
  sort_sorted [] = sorted_nil
  sort_sorted (x ∷ l) = insert-sorted x (sort_sorted l)

  -- two sorted lists with the same entries are equal
  pub sorted-unique : {l m : List A} → Sorted c l → Sorted c m → Perm l m → l ≡ m
  sorted-unique sorted_nil sorted_nil p = refl
  sorted-unique sorted_nil (sorted_cons a s) p = absurd (omega (arith, perm-length p))
  sorted-unique (sorted_cons a s) sorted_nil p = absurd (omega (arith, perm-length p))
  sorted-unique (sorted_cons {x = x} {l = l} a s) (sorted_cons {x = y} {l = m} b t) p =
      let xy : at_most c x y ≡ true = each-head (at_most c x) y m (perm-each (at_most c x) p (each-cons (at_most c x) l (at_most-self w x) a)) in
      let yx : at_most c y x ≡ true = each-head (at_most c y) x l (perm-each (at_most c y) (perm-sym p) (each-cons (at_most c y) m (at_most-self w y) b)) in
      let e : x ≡ y = at_most-anti w x y xy yx in
      ap₂ ◌∷◌ e (sorted-unique s t (perm-tail (rw e at p)))

  -- sorting changes no sorted list
  pub sort-of-sorted : {l : List A} → Sorted c l → sort c l ≡ l
  sort-of-sorted {l} s = sorted-unique (sort_sorted l) s (sort-perm c l)

  -- sorting forgets the order of the entries
  pub sort-perm-equal : {l m : List A} → Perm l m → sort c l ≡ sort c m
  sort-perm-equal {l} {m} p = sorted-unique (sort_sorted l) (sort_sorted m) (perm-trans (sort-perm c l) (perm-trans p (perm-sym (sort-perm c m))))

  -- a sorted permutation is the result of sorting
  pub sort-is : {l m : List A} → Sorted c m → Perm l m → sort c l ≡ m
  sort-is s p = sort-perm-equal p ∙ sort-of-sorted s

module _ {A B : Type 0} (c : A → A → Ordering) (d : B → B → Ordering) (f : A → B) where
  -- f keeps the comparison on the entries: it may be applied before or after inserting and sorting
  pub insert-map : (x : A) (l : List A) → ((y : A) → y ∈ l → d (f x) (f y) ≡ c x y) → insert d (f x) (map f l) ≡ map f (insert c x l)
  insert-map x [] h = refl
  insert-map x (y ∷ l) h =
      by-test (at_most c x y)
      (λ e. rw (h y (Memᴰ.head refl), e))
      (λ e. rw (h y (Memᴰ.head refl), e) (ap (λ t. f y ∷ t) (insert-map x l (λ z m. h z (Memᴰ.tail m)))))

  pub sort-map : (l : List A) → ((x y : A) → x ∈ l → y ∈ l → d (f x) (f y) ≡ c x y) → sort d (map f l) ≡ map f (sort c l)
  sort-map [] h = refl
  sort-map (x ∷ l) h =
      ap (insert d (f x)) (sort-map l (λ y z m n. h y z (Memᴰ.tail m) (Memᴰ.tail n)))
      ∙ insert-map x (sort c l) (λ y m. h x y (Memᴰ.head refl) (Memᴰ.tail (sort-member c l m)))
