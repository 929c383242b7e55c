-- Names for the points of a map that keep its arrows in their spans: for all points, these are the names by which the renamed map is within all spans.
use mathlib.Core.Path.{◌≡◌, sym}
use mathlib.Core.Bool.{true}
use mathlib.Core.List.{List}
use Prim.Native.Nat.{ℕ, ◌≤◌, ◌<◌, compare}
use native.Mathlib.Omega.{arith}
use lib.Dec.{ltb}
use borrow.Author.Tests.{lt-ltb, ltb-true}
use lib.ListN.{length}
use Rattle.lists.specs.Select.{range, place}
use Rattle.lists.proofs.Tests.{by-test, each-true, each_member}
use Rattle.lists.proofs.Members.{in-range, of_range}
use Rattle.patterns.specs.Table.{image}
use Rattle.patterns.specs.Isomorphism.{Isomorphism}
use Rattle.map_theory.proofs.PointsOnce.{perm-place}
use Rattle.map_theory.proofs.Isomorphisms.{isomorphism-perm, isomorphism-below}
use Rattle.completion_theory.specs.Completion.{in_span, within_spans}
use Rattle.completion_theory.specs.Arrangement.{arrow_fits, fits}

module _ (spans : List (List ℕ)) (m : List ℕ) where
  -- the arrow from j is in its span
  abbrev Kept : List ℕ → ℕ → Type 0
  Kept r j = in_span spans (image r j) (image r (image m j)) ≡ true

  fits-arrow : {i : ℕ} (r : List ℕ) → fits spans m i r ≡ true → (j : ℕ) → j < i → image m j < i → Kept r j
  unfolding fits
  fits-arrow {i} r e j h k = rw (lt-ltb (image m j) i k) at (each_member (arrow_fits spans m i r) e (in-range 0 i {x = j} (omega arith) (omega arith)))

  arrows-fit : (i : ℕ) (r : List ℕ) → ((j : ℕ) → j < i → image m j < i → Kept r j) → fits spans m i r ≡ true
  unfolding fits
  arrows-fit i r h =
      each-true (arrow_fits spans m i r) (range 0 i)
      (λ j a.
      let b = of_range 0 i a in
      by-test (ltb (image m j) i) (λ t. rw t (h j (omega arith) (ltb-true (image m j) i t))) (λ t. rw t))

  -- fewer points fit too, and only their names matter
  pub fits-start : (i n : ℕ) (q r : List ℕ) → i ≤ n → ((x : ℕ) → x < i → image q x ≡ image r x) → fits spans m n q ≡ true → fits spans m i r ≡ true
  fits-start i n q r l agree e = arrows-fit i r (λ j h k. rw (sym (agree j h), sym (agree (image m j) k)) (fits-arrow q e j (omega arith) (omega arith)))

  module _ {n : ℕ} {f q : List ℕ} (l : length f ≡ n) (i : Isomorphism n m f q) where
    pub fits-within : ((x : ℕ) → x < n → image m x < n) → fits spans m n q ≡ true → within_spans spans f ≡ true
    fits-within below e =
        each-true (λ x. in_span spans x (image f x)) (range 0 (length f))
        (λ x a.
        let b = of_range 0 (length f) a in
        let p = perm-place (isomorphism-perm i) x (omega arith) in
        let j = place compare x q in
        rw (i.follows j p.0, p.1) at (fits-arrow q e j p.0 (below j p.0)))

    pub within-fits : within_spans spans f ≡ true → fits spans m n q ≡ true
    within-fits e =
        arrows-fit n q
        (λ j h k.
        let inside : image q j < length f = omega (arith, isomorphism-below i j h) in
        rw (i.follows j h) (each_member (λ x. in_span spans x (image f x)) e (in-range 0 (length f) {x = image q j} (omega arith) (omega arith))))
