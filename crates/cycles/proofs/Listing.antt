-- Listing the points of degree 0, point by point.
use mathlib.Core.Path.{◌≡◌, refl, ap, sym, ◌∙◌}
use mathlib.Core.Bool.{false, ◌||◌}
use mathlib.Core.List.{List}
use Prim.Native.Nat.{ℕ, ◌+◌, ◌≤◌, ◌<◌}
use native.Mathlib.Omega.{arith}
use lib.Dec.{eqb}
use lib.ListN.{length, get_or, set, length-set}
use borrow.Author.Count.{below_more}
use borrow.Author.Tests.{eq-eqb, ne_eqb}
use Rattle.cycles.specs.Queue.{among, Distinct}
use Rattle.cycles.proofs.Queue.{among-kept, among-joined, distinct-kept, distinct-joined}

-- the first len places hold the points of degree 0 below x
pub record Listing (degrees queue : List ℕ) (x len : ℕ) : Type 0 where
  pub same : length queue ≡ length degrees
  pub passed : x ≤ length degrees
  pub fewer : len ≤ x
  pub distinct : Distinct queue len (length degrees)
  pub done : (y : ℕ) → y < x → among queue len y ≡ eqb (get_or degrees y 0) 0
  pub rest : (y : ℕ) → x ≤ y → among queue len y ≡ false

module _ {degrees queue : List ℕ} {x len : ℕ} (l : Listing degrees queue x len) where
  module _ (h : x < length degrees) where
    pub listing-room : len < length queue
    listing-room = omega (arith, l.same, l.fewer)

    -- a point of degree 0 joins
    pub listing-leaf : get_or degrees x 0 ≡ 0 → Listing degrees (set queue len x) (x + 1) (len + 1)
    listing-leaf leaf =
        let now : (y : ℕ) → (x ≡ y → ⊥) → among (set queue len x) (len + 1) y ≡ among queue len y =
        λ y other. among-joined queue len x y listing-room ∙ ap (λ t. t || among queue len y) (ne_eqb x y other) in
        record {
          same = simp length-set l.same;
          passed = omega arith;
          fewer = omega (arith, l.fewer);
          distinct = distinct-joined queue len x l.distinct listing-room h (l.rest x (omega arith));
          done = below_more (λ y. among (set queue len x) (len + 1) y ≡ eqb (get_or degrees y 0) 0) x
              (λ y b. now y (λ e. omega arith) ∙ l.done y b)
              (among-joined queue len x x listing-room ∙ ap (λ t. t || among queue len x) (eq-eqb x x refl) ∙ sym (eq-eqb (get_or degrees x 0) 0 leaf));
          rest = λ y b. now y (λ e. omega arith) ∙ l.rest y (omega arith);
        }

    -- any other does not
    pub listing-other : (get_or degrees x 0 ≡ 0 → ⊥) → Listing degrees (set queue len x) (x + 1) len
    listing-other other =
        let now : (y : ℕ) → among (set queue len x) len y ≡ among queue len y =
        λ y. among-kept queue len x len y (omega arith) in
        record {
          same = simp length-set l.same;
          passed = omega arith;
          fewer = omega (arith, l.fewer);
          distinct = distinct-kept queue len x l.distinct;
          done = below_more (λ y. among (set queue len x) len y ≡ eqb (get_or degrees y 0) 0) x
              (λ y b. now y ∙ l.done y b)
              (now x ∙ l.rest x (omega arith) ∙ sym (ne_eqb (get_or degrees x 0) 0 other));
          rest = λ y b. now y ∙ l.rest y (omega arith);
        }
