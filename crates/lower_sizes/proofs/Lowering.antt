-- The size list before, written in place: two numbers take the place of the rightmost number that can fall and of all to its right.
use mathlib.Core.Path.{◌≡◌, refl, ap, sym, ◌∙◌}
use mathlib.Core.List.{List, [], ◌∷◌, ◌++◌}
use mathlib.Core.Option.{none, some}
use Rattle.std.specs.Prelude.{Some, None}
use Prim.Native.Nat.{ℕ, zero, suc, ◌+◌, ◌-◌, ◌/◌, ◌≤◌, ◌<◌}
use native.Mathlib.Numerals.{add-one}
use native.Mathlib.Omega.{arith}
use lib.Dec.{ltb}
use lib.ListN.{length, take, get_or, set, length-set}
use lib.Seq.{take-suc, take-suc-set, append_snoc, length-take-le, get_or-take}
use borrow.Author.Tests.{lt-ltb, le-ltb, lt-leb, le-leb, ltb-true}
use Rattle.lists.specs.Select.{each, left_of}
use Rattle.lists.proofs.Tests.{and-true, each_member, each_append}
use Rattle.lists.proofs.Permute.{total-append}
use Rattle.lists.proofs.Places.{in-index, left-taken}
use Rattle.system_theory.specs.StepBack.{lower_sizes, previous_sizes}
use Rattle.system_theory.proofs.BackScan.{previous_sizes-pass, previous_sizes-at}
use Rattle.size_lists.specs.SizesHeld.{sum, SizesIn, NextIn}
use Rattle.size_lists.proofs.Growing.{count-sum}
use Rattle.lower_sizes.specs.LastSize.{LastWhole}

-- the number to the left is positive
left-positive : (sizes : List ℕ) (m i : ℕ) → SizesIn sizes m → i < m → 0 < left_of 0 1 sizes i
left-positive sizes m zero s h = omega arith
left-positive sizes m (suc i) s h =
    let n : i < length (take m sizes) = omega (arith, length-take-le m sizes s.within) in
    omega (arith, ltb-true 0 (get_or (take m sizes) i 0) (each_member (ltb 0) s.positive (in-index (take m sizes) i 0 n)), get_or-take m sizes i 0 (omega arith))

-- What a number gives way to.

fall-none : (a s : ℕ) (l : List ℕ) → 0 < length l → s ≤ a → lower_sizes a s l ≡ none
unfolding lower_sizes
fall-none a s [] h k = absurd (omega arith)
fall-none a s (t ∷ l) h k = rw (le-ltb a s k)

fall-some : (a s : ℕ) (l : List ℕ) → 0 < length l → a < s → lower_sizes a s l ≡ some ((s - 1) ∷ suc (sum l) ∷ [])
unfolding lower_sizes
fall-some a s [] h k = absurd (omega arith)
fall-some a s (t ∷ l) h k = rw (lt-ltb a s k)

half-none : (a s : ℕ) → s < a + a → lower_sizes a s [] ≡ none
unfolding lower_sizes
half-none a s h = rw (lt-leb (a + a) s h)

half-some : (a s : ℕ) → a + a ≤ s → lower_sizes a s [] ≡ some (s / 2 ∷ (s - s / 2) ∷ [])
unfolding lower_sizes
half-some a s h = rw (le-leb (a + a) s h)

nothing-before : (a : ℕ) → previous_sizes a [] ≡ none
unfolding previous_sizes
nothing-before a = refl

-- no sizes
pub none-empty : (sizes : List ℕ) (m : ℕ) → m ≡ 0 → NextIn (previous_sizes 1 (take m sizes)) None sizes
none-empty sizes m e = rw (e, nothing-before 1) tt

-- two numbers written from place i on
two-written : (sizes : List ℕ) (i j k a b : ℕ) → j ≡ suc i → k ≡ suc j → j < length sizes → take k (set (set sizes i a) j b) ≡ take i sizes ++ (a ∷ b ∷ [])
two-written sizes i j k a b e f h =
    rw (f, e, take-suc-set (set sizes i a) (suc i) b (rw length-set (omega arith)), take-suc-set sizes i a (omega arith))
    (append_snoc (take i sizes) a (b ∷ []))

-- the number at place i, with the numbers l to its right, gives way to a and b
module _ (sizes : List ℕ) (m i : ℕ) (l : List ℕ) (a b : ℕ) (p : take m sizes ≡ take i sizes ++ (get_or sizes i 0 ∷ l)) where
  given-way : i ≤ length sizes → previous_sizes (get_or sizes i 0) l ≡ none → lower_sizes (left_of 0 1 sizes i) (get_or sizes i 0) l ≡ some (a ∷ b ∷ [])
      → previous_sizes 1 (take m sizes) ≡ some (take i sizes ++ (a ∷ b ∷ []))
  given-way h e f =
      ap (previous_sizes 1) p
      ∙ previous_sizes-at 0 1 (take i sizes) (get_or sizes i 0) l (a ∷ b ∷ []) e (ap (λ x. lower_sizes x (get_or sizes i 0) l) (left-taken 0 1 sizes i h) ∙ f)

  gives-way : previous_sizes (get_or sizes i 0) l ≡ none → lower_sizes (left_of 0 1 sizes i) (get_or sizes i 0) l ≡ some (a ∷ b ∷ [])
      → (j k : ℕ) → j ≡ suc i → k ≡ suc j → j < length sizes → NextIn (previous_sizes 1 (take m sizes)) (Some k) (set (set sizes i a) j b)
  gives-way e f j k q r h =
      rw (given-way (omega arith) e f) (omega arith, simp length-set (omega arith), two-written sizes i j k a b q r h)

-- The last number is parted in two.

module _ {sizes : List ℕ} {m : ℕ} (s : SizesIn sizes m) (i : ℕ) (e : m ≡ suc i) where
  abbrev last : ℕ
  last = get_or sizes i 0

  last_apart : take m sizes ≡ take i sizes ++ (last ∷ [])
  last_apart = ap (λ k. take k sizes) e ∙ take-suc sizes i 0 (omega (arith, s.within))

  -- there is a place more for it
  pub half_room : left_of 0 1 sizes i + left_of 0 1 sizes i ≤ last → m < length sizes
  half_room h =
      let l = take i sizes in
      let p = and-true (each (ltb 0) l) (each (ltb 0) (last ∷ [])) (sym (each_append (ltb 0) l (last ∷ [])) ∙ ap (each (ltb 0)) (sym last_apart) ∙ s.positive) in
      omega (
        arith,
        s.room,
        count-sum l p.0,
        length-take-le i sizes (omega (arith, s.within)),
        left-positive sizes m i s (omega arith),
        ap sum last_apart,
        total-append (λ x. x) l (last ∷ []),
      )

  -- the lesser half stands first
  pub half-written : left_of 0 1 sizes i + left_of 0 1 sizes i ≤ last → (a b k : ℕ) → a ≡ last / 2 → b ≡ last - last / 2 → k ≡ suc m
      → NextIn (previous_sizes 1 (take m sizes)) (Some k) (set (set sizes i a) m b)
  half-written h a b k p q r =
      gives-way sizes m i [] a b last_apart (nothing-before last) (rw (p, q) (half-some (left_of 0 1 sizes i) last h)) m k e r (half_room h)

  -- it is not parted
  pub last-whole : last < left_of 0 1 sizes i + left_of 0 1 sizes i → LastWhole sizes i last
  last-whole h =
      let f : m ≡ i + 1 = omega arith in
      record { held = rw f at s; is = refl; whole = h }

-- From place i on down.

-- Of the first m sizes none from place i on can fall, and these have the sum `rest`.
pub record Lowering (before : List ℕ) (m : ℕ) (sizes : List ℕ) (i rest : ℕ) : Type 0 where
  pub same : sizes ≡ before
  pub held : SizesIn sizes m
  pub place : i < m
  pub right : List ℕ
  pub parts : take m sizes ≡ take i sizes ++ right
  pub some_right : 0 < length right
  pub is : rest ≡ sum right
  pub stays : previous_sizes (left_of 0 1 sizes i) right ≡ none

pub lowering-start : {sizes : List ℕ} {i last : ℕ} → LastWhole sizes i last → Lowering sizes (i + 1) sizes i last
lowering-start {sizes} {i} {last} w =
    record {
      same = refl;
      held = w.held;
      place = omega arith;
      right = last ∷ [];
      parts = rw w.is (last_apart w.held i (add-one i));
      some_right = omega arith;
      is = omega arith;
      stays = previous_sizes-pass (left_of 0 1 sizes i) last [] (nothing-before last) (half-none (left_of 0 1 sizes i) last w.whole);
    }

module _ {before : List ℕ} {m : ℕ} {sizes : List ℕ} {i rest : ℕ} (w : Lowering before m sizes i rest) where
  module _ (j : ℕ) (e : i ≡ suc j) where
    abbrev size : ℕ
    size = get_or sizes j 0

    within : i < length sizes
    within = omega (arith, w.place, w.held.within)

    apart : take m sizes ≡ take j sizes ++ (size ∷ w.right)
    apart = w.parts ∙ rw (e, take-suc sizes j 0 (omega (arith, within))) (append_snoc (take j sizes) size w.right)

    stays-right : previous_sizes size w.right ≡ none
    stays-right = ap (λ k. previous_sizes (left_of 0 1 sizes k) w.right) (sym e) ∙ w.stays

    -- the sums are small
    pub lowering_small : rest + size ≤ 200
    lowering_small =
        omega (arith, w.is, w.held.room, w.held.small, ap sum apart, total-append (λ x. x) (take j sizes) (size ∷ w.right))

    -- it cannot fall
    pub lowering-next : size ≤ left_of 0 1 sizes j → (r : ℕ) → r ≡ rest + size → Lowering before m sizes j r
    lowering-next h r f =
        record {
          same = w.same;
          held = w.held;
          place = omega (arith, w.place);
          right = size ∷ w.right;
          parts = apart;
          some_right = omega arith;
          is = omega (arith, w.is);
          stays = previous_sizes-pass (left_of 0 1 sizes j) size w.right stays-right (fall-none (left_of 0 1 sizes j) size w.right w.some_right h);
        }

    -- it falls
    pub lowering-found : left_of 0 1 sizes j < size → (a b k : ℕ) → a ≡ size - 1 → b ≡ rest + 1 → k ≡ suc (j + 1)
        → NextIn (previous_sizes 1 (take m before)) (Some k) (set (set sizes j a) (j + 1) b)
    lowering-found h a b k p q r =
        let f : b ≡ suc (sum w.right) = omega (arith, w.is) in
        rw (← w.same)
        (gives-way sizes m j w.right a b apart stays-right (rw (p, f) (fall-some (left_of 0 1 sizes j) size w.right w.some_right h))
        (j + 1) k (add-one j) r (omega (arith, within)))
