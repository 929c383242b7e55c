-- The greatest distance of a point from its cycle, taken point by point.
use mathlib.Core.Path.{◌≡◌, refl, ap, ap₂, sym, ◌∙◌}
use mathlib.Core.List.{List, [], ◌∷◌, ◌++◌, map, map-append}
use mathlib.Core.Bool.{cond}
use Prim.Native.Nat.{ℕ, ◌+◌, ◌≤◌}
use native.Mathlib.Omega.{arith}
use native.Mathlib.Numerals.{add-one}
use lib.Dec.{leb}
use borrow.Author.Tests.{le-leb, leb-true, leb-false}
use Rattle.lists.specs.Select.{range}
use Rattle.lists.proofs.Tests.{by-test}
use Rattle.lists.proofs.Places.{range_last}
use Rattle.patterns.specs.Census.{greatest, steps_to_cycle, height}

-- the greater of two numbers
abbrev greater : ℕ → ℕ → ℕ
greater m x = cond (leb m x) x m

greater-right : (m x : ℕ) → m ≤ x → greater m x ≡ x
greater-right m x h = rw (le-leb m x h)

greater-left : (m x : ℕ) → x ≤ m → greater m x ≡ m
greater-left m x h = by-test (leb m x) (λ t. rw t (let b = leb-true m x t in omega arith)) (λ t. rw t)

-- it is not less than either, and no greater than what is not
greater-bounds : (m x : ℕ) → (m ≤ greater m x) × (x ≤ greater m x)
greater-bounds m x =
    by-test (leb m x)
    (λ t. rw t (leb-true m x t, omega arith))
    (λ t. rw t (let h = leb-false m x t in (omega arith, omega arith)))

greater-least : (m x z : ℕ) → m ≤ z → x ≤ z → greater m x ≤ z
greater-least m x z h k = by-test (leb m x) (λ t. rw t k) (λ t. rw t h)

greater-swap : (m x y : ℕ) → greater (greater m x) y ≡ greater (greater m y) x
greater-swap m x y = let a = half m x y in let b = half m y x in omega arith
  where
    half : (m x y : ℕ) → greater (greater m x) y ≤ greater (greater m y) x
    half m x y =
        let a = greater-bounds m y in
        let b = greater-bounds (greater m y) x in
        greater-least (greater m x) y (greater (greater m y) x) (greater-least m x (greater (greater m y) x) (omega arith) (omega arith)) (omega arith)

-- one number more
greatest-snoc : (l : List ℕ) (x : ℕ) → greatest (l ++ (x ∷ [])) ≡ greater (greatest l) x
greatest-snoc [] x = refl
greatest-snoc (y ∷ l) x = ap (λ m. greater m y) (greatest-snoc l x) ∙ greater-swap (greatest l) x y

module _ (n : ℕ) (f : ℕ → ℕ) where
  -- the greatest distance of the first i points
  unfoldable pub height_to : ℕ → ℕ
  height_to i = greatest (map (steps_to_cycle n f n) (range 0 i))

  pub height_to-start : height_to 0 ≡ 0
  unfolding height_to
  height_to-start = refl

  height_to-next : (i : ℕ) → height_to (i + 1) ≡ greater (height_to i) (steps_to_cycle n f n i)
  unfolding height_to
  height_to-next i =
      let e : 0 + i ≡ i = omega arith in
      rw (add-one i)
      (ap (λ l. greatest (map (steps_to_cycle n f n) l)) (range_last 0 i)
      ∙ ap greatest (map-append (steps_to_cycle n f n) (range 0 i) ((0 + i) ∷ []))
      ∙ greatest-snoc (map (steps_to_cycle n f n) (range 0 i)) (steps_to_cycle n f n (0 + i))
      ∙ ap (λ j. greater (height_to i) (steps_to_cycle n f n j)) e)

  pub height_to-taken : (i : ℕ) {m d : ℕ} → m ≡ height_to i → d ≡ steps_to_cycle n f n i → m ≤ d → d ≡ height_to (i + 1)
  height_to-taken i {m} {d} e k b = sym (height_to-next i ∙ ap₂ greater (sym e) (sym k) ∙ greater-right m d b)

  pub height_to-passed : (i : ℕ) {m d : ℕ} → m ≡ height_to i → d ≡ steps_to_cycle n f n i → d ≤ m → m ≡ height_to (i + 1)
  height_to-passed i {m} {d} e k b = sym (height_to-next i ∙ ap₂ greater (sym e) (sym k) ∙ greater-left m d b)

  pub height_to-all : height_to n ≡ height n f
  unfolding height_to height
  height_to-all = refl
