-- The arrangements that the search meets: all that fit, and no others.
use mathlib.Core.Path.{◌≡◌, sym, ◌∙◌}
use mathlib.Core.Bool.{true}
use mathlib.Core.List.{List}
use Prim.Native.Nat.{ℕ, zero, suc, ◌+◌, ◌≤◌, ◌<◌}
use native.Mathlib.Omega.{arith}
use lib.Dec.{ltb}
use borrow.Author.Tests.{ltb-true, ltb-false}
use lib.ListN.{length}
use lib.Seq.{ext_get_or}
use Rattle.lists.specs.Select.{range}
use Rattle.lists.proofs.Tests.{◌∈◌, by-test}
use Rattle.lists.proofs.Comparison.{compare-lawful}
use Rattle.lists.proofs.Permute.{Perm, perm-path, perm-sym, perm-trans, perm-length, perm-member}
use Rattle.lists.proofs.Members.{NoDup, in_head, in-single, in_moved, not-in-nil, in-range, of_range, in-gather, of-gather}
use Rattle.lists.proofs.Places.{in-index, index_of, nodup-index}
use Rattle.patterns.specs.Table.{image}
use Rattle.completion_theory.specs.Arrangement.{swap, fits, arrangements}
use Rattle.completion_theory.proofs.Swaps.{length-swap, swap-perm, swap_at, swap-before}
use Rattle.completion_theory.proofs.FittingNames.{fits-start}

-- the same entries at the first i places
abbrev Agree : ℕ → List ℕ → List ℕ → Type 0
Agree i q r = (x : ℕ) → x < i → image q x ≡ image r x

-- another order of r that agrees with it at the first i places has its next entry at one of the places that are left
next_place : (i : ℕ) (q r : List ℕ) → NoDup q → Perm q r → i < length r → Agree i q r → (j : ℕ) × (i ≤ j) × (j < length r) × (image r j ≡ image q i)
next_place i q r d p h agree =
    let inside : i < length q = omega (arith, perm-length p) in
    let s = index_of 0 (perm-member compare-lawful p (in-index q i 0 inside)) in
    let j = s.0 in
    let here : image r j ≡ image q i = s.2 in
    let after : i ≤ j =
    by-test (ltb j i)
    (λ t.
    let b = ltb-true j i t in
    absurd (omega (arith, nodup-index 0 j i d (omega arith) inside (agree j b ∙ here))))
    (λ t. ltb-false j i t) in
    (j, after, s.1, here)

-- that entry brought to place i, one place more agrees
swap-agree : (i j : ℕ) (q r : List ℕ) → i ≤ j → i < length r → image r j ≡ image q i → Agree i q r → Agree (suc i) q (swap i j r)
swap-agree i j q r h k e agree x l =
    by-test (ltb x i)
    (λ t. let b = ltb-true x i t in agree x b ∙ sym (swap-before i j r h x b))
    (λ t.
    let s : x ≡ i = omega (arith, ltb-false x i t) in
    rw s (sym e ∙ sym (swap_at i j r k)))

module _ (spans : List (List ℕ)) (m : List ℕ) (n : ℕ) where
  pub arrangements-complete : (k i : ℕ) (q r : List ℕ) → i + k ≡ n → length r ≡ n → NoDup q → Perm q r → Agree i q r → fits spans m n q ≡ true
      → q ∈ arrangements spans m i k r
  unfolding arrangements
  arrangements-complete zero i q r h l d p agree e =
      let same : q ≡ r = ext_get_or 0 q r (perm-length p) (λ x b. agree x (omega (arith, perm-length p))) in
      rw (fits-start spans m i n q r (omega arith) agree e) (in_moved (sym same) in_head)
  arrangements-complete (suc k) i q r h l d p agree e =
      let s = next_place i q r d p (omega arith) agree in
      let j = s.0 in
      rw (fits-start spans m i n q r (omega arith) agree e)
      (in-gather (λ y. arrangements spans m (suc i) k (swap i y r)) (in-range i (suc k) s.1 (omega (arith, s.2)))
      (arrangements-complete k (suc i) q (swap i j r) (omega arith) (length-swap i j r ∙ l) d
      (perm-trans p (perm-sym (swap-perm i j r (omega arith) s.2)))
      (swap-agree i j q r s.1 (omega arith) s.3 agree)
      e))

  pub arrangements-sound : (k i : ℕ) {q : List ℕ} (r : List ℕ) → i + k ≡ n → length r ≡ n → q ∈ arrangements spans m i k r
      → Perm q r × (fits spans m n q ≡ true)
  unfolding arrangements
  arrangements-sound zero i {q} r h l a =
      by-test (fits spans m i r)
      (λ t.
      let e : q ≡ r = in-single (rw (t, arrangements) at a) in
      let whole : i ≡ n = omega arith in
      (perm-path e, rw (e, sym whole) t))
      (λ t. not-in-nil (rw (t, arrangements) at a))
  arrangements-sound (suc k) i r h l a =
      by-test (fits spans m i r)
      (λ t.
      let s = of-gather (λ y. arrangements spans m (suc i) k (swap i y r)) (range i (suc k)) (rw (t, arrangements) at a) in
      let j = s.0 in
      let b = of_range i (suc k) s.1 in
      let rest = arrangements-sound k (suc i) (swap i j r) (omega arith) (length-swap i j r ∙ l) s.2 in
      (perm-trans rest.0 (swap-perm i j r (omega arith) (omega arith)), rest.1))
      (λ t. not-in-nil (rw (t, arrangements) at a))
