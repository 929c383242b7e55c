-- The cycle lengths for n points are put into the last places one after another, the longest first; ones stand before them.
use mathlib.Core.Path.{◌≡◌, refl, ap, ap₂, sym, ◌∙◌}
use mathlib.Core.List.{List, [], ◌∷◌, ◌++◌, append-nil}
use Prim.Native.Nat.{ℕ, zero, suc, ◌+◌, ◌-◌, ◌/◌, ◌%◌, ◌≤◌, ◌<◌}
use native.Mathlib.Omega.{arith}
use lib.Dec.{eqb}
use lib.ListN.{length, get_or, set, drop, replicate, length-append, length-set, length-replicate}
use borrow.Author.Tests.{eq-eqb, ne_eqb}
use Rattle.lists.proofs.Tests.{by-test}
use Rattle.system_theory.proofs.Sizes.{sum}
use Rattle.greatest_period_entry.specs.LandauLengths.{masks, mask_lengths, long_lengths, landau_lengths}
use Rattle.greatest_period_entry.specs.Lengths.{LengthsFrom}
use Rattle.greatest_period_entry.proofs.LandauReached.{long-fits}

-- A bit that is set, and one that is not.
mask-taken : (i m : ℕ) (l : List ℕ) → m % 2 ≡ 1 → mask_lengths (suc i) m l ≡ mask_lengths i (m / 2) (suc (suc i) ∷ l)
unfolding mask_lengths
mask-taken i m l e = rw (eq-eqb (m % 2) 1 e)

mask-passed : (i m : ℕ) (l : List ℕ) → (m % 2 ≡ 1 → ⊥) → mask_lengths (suc i) m l ≡ mask_lengths i (m / 2) l
unfolding mask_lengths
mask-passed i m l e = rw (ne_eqb (m % 2) 1 e)

mask-none : (m : ℕ) (l : List ℕ) → mask_lengths 0 m l ≡ l
unfolding mask_lengths
mask-none m l = refl

-- what is taken is never given back
mask-more : (i m : ℕ) (l : List ℕ) → sum l ≤ sum (mask_lengths i m l)
unfolding mask_lengths
mask-more zero m l = omega arith
mask-more (suc i) m l =
    by-test (eqb (m % 2) 1)
    (λ t. rw t (omega (arith, mask-more i (m / 2) (suc (suc i) ∷ l))))
    (λ t. rw t (mask-more i (m / 2) l))

-- Ones before other numbers.
ones-set : (j x : ℕ) (l : List ℕ) → set (replicate (suc j) 1 ++ l) j x ≡ replicate j 1 ++ (x ∷ l)
ones-set zero x l = refl
ones-set (suc j) x l = ap (1 ∷◌) (ones-set j x l)

ones-drop : (j k : ℕ) (l : List ℕ) → drop j (replicate (j + k) 1 ++ l) ≡ replicate k 1 ++ l
ones-drop zero k l = let none : 0 + k ≡ k = omega arith in ap (λ i. replicate i 1 ++ l) none
ones-drop (suc j) k l = let next : suc j + k ≡ suc (j + k) = omega arith in ap (λ i. drop (suc j) (replicate i 1 ++ l)) next ∙ ones-drop j k l

-- The lengths from k + 1 on are chosen, they stand from `at` on, and `left` points are left.
pub record Choosing (n : ℕ) (sizes : List ℕ) (mask at left k : ℕ) : Type 0 where
  pub chosen : List ℕ
  pub are : sizes ≡ replicate at 1 ++ chosen
  pub long : length sizes ≡ 200
  pub whole : mask_lengths (k - 1) mask chosen ≡ long_lengths n
  pub places : 171 + k ≤ at
  pub points_left : left + sum chosen ≡ n
  pub few : n ≤ 120

pub choosing-start : (n : ℕ) {sizes : List ℕ} {mask k : ℕ} → n ≤ 120 → k ≡ 200 → sizes ≡ replicate k 1 → mask ≡ get_or masks n 0 → Choosing n sizes mask (length sizes) n 29
unfolding long_lengths
choosing-start n {sizes} {mask} {k} h l e m =
    let places : length sizes ≡ k = ap length e ∙ length-replicate {A = ℕ} k 1 in
    record {
      chosen = [];
      are = e ∙ ap (λ j. replicate j 1) (sym places) ∙ sym (append-nil (replicate (length sizes) 1));
      long = places ∙ l;
      whole = ap (λ m. mask_lengths 28 m []) m;
      places = omega arith;
      points_left = omega arith;
      few = h;
    }

module _ {n : ℕ} {sizes : List ℕ} {mask at left k : ℕ} (w : Choosing n sizes mask at left k) where
  filled : at + length w.chosen ≡ 200
  filled = omega (arith, w.long, ap length w.are, length-append (replicate at 1) w.chosen, length-replicate {A = ℕ} at 1)

  pub choosing-within : at ≤ 200
  choosing-within = omega (arith, filled)

  -- the points that are left have ones before the chosen lengths
  pub choosing-room : left ≤ at
  choosing-room = omega (arith, w.points_left, w.few, w.places)

  module _ (more : 1 < k) where
    length-here : k - 1 ≡ suc (k - 1 - 1)
    length-here = omega arith

    module _ (bit : mask % 2 ≡ 1) where
      taken : mask_lengths (k - 1 - 1) (mask / 2) (k ∷ w.chosen) ≡ long_lengths n
      taken =
          let next : k ≡ suc (suc (k - 1 - 1)) = omega arith in
          ap (λ j. mask_lengths (k - 1 - 1) (mask / 2) (j ∷ w.chosen)) next
          ∙ sym (mask-taken (k - 1 - 1) mask w.chosen bit)
          ∙ ap (λ j. mask_lengths j mask w.chosen) (sym length-here)
          ∙ w.whole

      -- there are as many points
      pub choosing-points : k ≤ left
      choosing-points = omega (arith, mask-more (k - 1 - 1) (mask / 2) (k ∷ w.chosen), ap sum taken, long-fits n w.few, w.points_left)

      pub choosing-take : Choosing n (set sizes (at - 1) k) (mask / 2) (at - 1) (left - k) (k - 1)
      choosing-take =
          let before : at ≡ suc (at - 1) = omega (arith, w.places) in
          record {
            chosen = k ∷ w.chosen;
            are = ap (λ l. set l (at - 1) k) (w.are ∙ ap (λ j. replicate j 1 ++ w.chosen) before) ∙ ones-set (at - 1) k w.chosen;
            long = length-set sizes (at - 1) k ∙ w.long;
            whole = taken;
            places = omega (arith, w.places);
            points_left = omega (arith, choosing-points, w.points_left);
            few = w.few;
          }

    pub choosing-pass : (mask % 2 ≡ 1 → ⊥) → Choosing n sizes (mask / 2) at left (k - 1)
    choosing-pass bit =
        record {
          chosen = w.chosen;
          are = w.are;
          long = w.long;
          whole = sym (mask-passed (k - 1 - 1) mask w.chosen bit) ∙ ap (λ j. mask_lengths j mask w.chosen) (sym length-here) ∙ w.whole;
          places = omega (arith, w.places);
          points_left = w.points_left;
          few = w.few;
        }

  module _ (over : k ≤ 1) where
    all-chosen : w.chosen ≡ long_lengths n
    all-chosen =
        let last : 0 ≡ k - 1 = omega arith in
        sym (mask-none mask w.chosen) ∙ ap (λ j. mask_lengths j mask w.chosen) last ∙ w.whole

    ones-left : left ≡ n - sum (long_lengths n)
    ones-left = omega (arith, w.points_left, ap sum all-chosen)

    pub choosing-end : LengthsFrom (at - left) sizes (landau_lengths n)
    unfolding landau_lengths
    choosing-end =
        let split : at ≡ at - left + left = omega (arith, choosing-room) in
        record {
          within = omega (arith, choosing-within, w.long);
          are =
              ap (drop (at - left)) (w.are ∙ ap (λ j. replicate j 1 ++ w.chosen) split)
              ∙ ones-drop (at - left) left w.chosen
              ∙ ap₂ (λ j l. replicate j 1 ++ l) ones-left all-chosen;
        }
