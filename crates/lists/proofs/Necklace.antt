-- Necklaces, that is, words none of whose rotations is less, found in one pass [J.-P. Duval, Factorizing words over an ordered alphabet, 1983]. What was
-- read is a prenecklace, a beginning of a power of its first p letters, and each further letter is compared with the letter p places before it.
use mathlib.Core.Path.{◌≡◌, refl, ap, ap₂, sym, ◌∙◌}
use mathlib.Core.Bool.{true}
use mathlib.Core.List.{List, [], ◌∷◌, ◌++◌, append_assoc, append-nil}
use Prim.Native.Nat.{ℕ, zero, suc, ◌+◌, ◌-◌, ◌≤◌, ◌<◌, Ordering}
use native.Mathlib.Omega.{arith}
use lib.Dec.{is_le, leb}
use lib.ListN.{length, take, drop, length-append, length-drop, take-append-drop, drop_of_length-le}
use lib.Seq.{drop-append-le, take-append-le, length-take-le, drop-drop, take-add, take_at, drop_at}
use borrow.Author.Tests.{leb-true, leb-false}
use Rattle.lists.specs.Order.{then, lex, at_most}
use Rattle.lists.proofs.Tests.{by-test, no_both}
use Rattle.lists.proofs.Comparison.{Lawful, by_order, then-eq, then-is-eq, lt-not-eq, at_most-lt-trans, eq-at_most, at_most-anti}
use Rattle.lists.proofs.Lex.{lex-lawful, lex-strip, lex-cons-gt}

-- Two words compared as far as both go.
abbrev pub up_to : {A : Type 0} → (A → A → Ordering) → List A → List A → Ordering
up_to c l [] = Ordering.eq
up_to c [] (y ∷ m) = Ordering.eq
up_to c (x ∷ l) (y ∷ m) =
    let rest = up_to c l m in
    then (c x y) rest

module _ {A : Type 0} (c : A → A → Ordering) where
  -- a difference decides, whatever follows
  up_to-more : (l m d e : List A) → (up_to c l m ≡ Ordering.eq → ⊥) → up_to c (l ++ d) (m ++ e) ≡ up_to c l m
  up_to-more l [] d e h = absurd (h refl)
  up_to-more [] (y ∷ m) d e h = absurd (h refl)
  up_to-more (x ∷ l) (y ∷ m) d e h =
      by_order (c x y) (λ o. rw o) (λ o. rw o (up_to-more l m d e (λ q. h (rw o q)))) (λ o. rw o)

  up_to-lex : (l m d e : List A) → (up_to c l m ≡ Ordering.eq → ⊥) → lex c (l ++ d) (m ++ e) ≡ up_to c l m
  up_to-lex l [] d e h = absurd (h refl)
  up_to-lex [] (y ∷ m) d e h = absurd (h refl)
  up_to-lex (x ∷ l) (y ∷ m) d e h =
      by_order (c x y) (λ o. rw o) (λ o. rw o (up_to-lex l m d e (λ q. h (rw o q)))) (λ o. rw o)

  -- what is not less stays so where its end is cut off
  up_to-cut : (l m e : List A) → is_le (up_to c l (m ++ e)) ≡ true → is_le (up_to c l m) ≡ true
  up_to-cut l [] e h = refl
  up_to-cut [] (y ∷ m) e h = refl
  up_to-cut (x ∷ l) (y ∷ m) e h =
      by_order (c x y) (λ o. rw o) (λ o. rw o (up_to-cut l m e (rw o at h))) (λ o. rw o (rw o at h))

  -- words of the same length are compared to their ends
  up_to-length : (l d m : List A) → length l ≡ length m → up_to c (l ++ d) m ≡ lex c l m
  up_to-length [] d [] h = refl
  up_to-length [] d (y ∷ m) h = absurd (omega arith)
  up_to-length (x ∷ l) d [] h = absurd (omega arith)
  up_to-length (x ∷ l) d (y ∷ m) h = ap (then (c x y)) (up_to-length l d m (omega arith))

module _ {A : Type 0} {c : A → A → Ordering} (w : Lawful c) where
  -- a common beginning does not matter
  up_to-strip : (b l m : List A) → up_to c (b ++ l) (b ++ m) ≡ up_to c l m
  up_to-strip [] l m = refl
  up_to-strip (x ∷ b) l m = rw (w.self x) (up_to-strip b l m)

  -- a word that begins another, and the other way round
  up_to-begins : (m e : List A) → up_to c (m ++ e) m ≡ Ordering.eq
  up_to-begins m e = ap (up_to c (m ++ e)) (sym (append-nil m)) ∙ up_to-strip m e []

  begins-up_to : (l m : List A) → length m ≤ length l → up_to c l m ≡ Ordering.eq → (e : List A) × (l ≡ m ++ e)
  begins-up_to l [] h q = (l, refl)
  begins-up_to [] (y ∷ m) h q = absurd (omega arith)
  begins-up_to (x ∷ l) (y ∷ m) h q =
      let r = then-is-eq (c x y) (up_to c l m) q in
      let k = begins-up_to l m (omega arith) r.1 in
      (k.0, ap₂ ◌∷◌ (w.equal x y r.0) k.1)

  -- a greater last letter makes a word that is not less one that is greater
  greater-letter : (l d : List A) (y x : A) → length d < length l → is_le (up_to c l (d ++ (y ∷ []))) ≡ true → c y x ≡ Ordering.lt
      → up_to c l (d ++ (x ∷ [])) ≡ Ordering.lt
  greater-letter [] d y x k h o = absurd (omega arith)
  greater-letter (z ∷ l) [] y x k h o = then-eq (c z x) ∙ at_most-lt-trans w z y x (ap is_le (sym (then-eq (c z y))) ∙ h) o
  greater-letter (z ∷ l) (t ∷ d) y x k h o =
      by_order (c z t)
      (λ q. rw q)
      (λ q. rw q (greater-letter l d y x (omega arith) (rw q at h) o))
      (λ q. no_both (rw q at h) refl)

-- A prenecklace of period p: a beginning of a power of its first p letters, and each of its ends that begins inside of these is greater than as long
-- a beginning.
pub record Prenecklace {A : Type 0} (c : A → A → Ordering) (p : ℕ) (a : List A) : Type 0 where
  pub positive : 0 < p
  pub within : p ≤ length a
  pub repeats : up_to c a (drop p a) ≡ Ordering.eq
  pub greater : (j : ℕ) → 0 < j → j < p → up_to c a (drop j a) ≡ Ordering.lt

pub prenecklace-one : {A : Type 0} (c : A → A → Ordering) (x : A) → Prenecklace c 1 (x ∷ [])
prenecklace-one c x = record { positive = omega arith; within = omega arith; repeats = refl; greater = λ j h k. absurd (omega arith) }

-- the letter one period before the next
pub record Earlier {A : Type 0} (p : ℕ) (a : List A) : Type 0 where
  pub letter : A
  pub later : List A
  pub cut : a ≡ drop p a ++ (letter ∷ later)

module _ {A : Type 0} {c : A → A → Ordering} (w : Lawful c) {p : ℕ} {a : List A} (s : Prenecklace c p a) where
  pub earlier : Earlier p a
  earlier = pick (begins-up_to w a (drop p a) (omega (arith, length-drop p a)) s.repeats)
    where
      pick : (e : List A) × (a ≡ drop p a ++ e) → Earlier p a
      pick ([], q) = absurd (omega (arith, ap length q, length-append (drop p a) [], length-drop p a, s.positive, s.within))
      pick (y ∷ v, q) = record { letter = y; later = v; cut = q }

  -- what stands from j on stands one period before it too
  before : (y : Earlier p a) (j : ℕ) → p ≤ j → j ≤ length a → drop (j - p) a ≡ drop j a ++ (y.letter ∷ y.later)
  before y j k h =
      let sum : p + (j - p) ≡ j = omega arith in
      ap (drop (j - p)) y.cut
      ∙ drop-append-le (j - p) (drop p a) (y.letter ∷ y.later) (omega (arith, length-drop p a))
      ∙ ap (λ l. l ++ (y.letter ∷ y.later)) (drop-drop (j - p) p a ∙ ap (λ m. drop m a) sum)

  -- no stretch is less than as long a beginning: first where it begins inside of the period, then by going back period after period
  stretch-inside : (j : ℕ) → j < p → (f e : List A) → drop j a ≡ f ++ e → is_le (up_to c a f) ≡ true
  stretch-inside zero k f e q = ap (λ l. is_le (up_to c l f)) q ∙ ap is_le (up_to-begins w f e)
  stretch-inside (suc j) k f e q =
      up_to-cut c a f e (ap (λ l. is_le (up_to c a l)) (sym q) ∙ ap is_le (s.greater (suc j) (omega arith) k))

  stretch : (n j : ℕ) → j ≤ n → j ≤ length a → (f e : List A) → drop j a ≡ f ++ e → is_le (up_to c a f) ≡ true
  stretch zero j k h f e q = stretch-inside j (omega (arith, s.positive)) f e q
  stretch (suc n) j k h f e q =
      by-test (leb p j)
      (λ t.
      let u = leb-true p j t in
      let v = earlier.letter ∷ earlier.later in
      stretch n (j - p) (omega (arith, s.positive)) (omega arith) f (e ++ v)
      (before earlier j u h ∙ ap (λ l. l ++ v) q ∙ append_assoc f e v))
      (λ t. stretch-inside j (leb-false p j t) f e q)

  module _ (y : Earlier p a) (x : A) where
    -- the next letter against the letter one period before
    letters : up_to c (a ++ (x ∷ [])) (drop p (a ++ (x ∷ []))) ≡ c y.letter x
    letters =
        ap₂ (up_to c)
        (ap (λ l. l ++ (x ∷ [])) y.cut ∙ append_assoc (drop p a) (y.letter ∷ y.later) (x ∷ []))
        (drop-append-le p a (x ∷ []) s.within)
        ∙ up_to-strip w (drop p a) (y.letter ∷ (y.later ++ (x ∷ []))) (x ∷ [])
        ∙ then-eq (c y.letter x)

    -- an end that is greater stays so
    still : (j : ℕ) → j ≤ length a → up_to c a (drop j a) ≡ Ordering.lt → up_to c (a ++ (x ∷ [])) (drop j (a ++ (x ∷ []))) ≡ Ordering.lt
    still j h g =
        ap (up_to c (a ++ (x ∷ []))) (drop-append-le j a (x ∷ []) h) ∙ up_to-more c a (drop j a) (x ∷ []) (x ∷ []) (λ q. lt-not-eq g q) ∙ g

    -- equal letters: the period stays
    pub prenecklace-equal : c y.letter x ≡ Ordering.eq → Prenecklace c p (a ++ (x ∷ []))
    prenecklace-equal o = record {
      positive = s.positive;
      within = omega (arith, length-append a (x ∷ []), s.within);
      repeats = letters ∙ o;
      greater = λ j h k. still j (omega (arith, s.within)) (s.greater j h k);
    }

    -- a greater letter: the period is the whole word
    pub prenecklace-greater : c y.letter x ≡ Ordering.lt → Prenecklace c (length a + 1) (a ++ (x ∷ []))
    prenecklace-greater o = record {
      positive = omega arith;
      within = omega (arith, length-append a (x ∷ []));
      repeats = ap (up_to c (a ++ (x ∷ []))) (drop_of_length-le (a ++ (x ∷ [])) {i = length a + 1} (omega (arith, length-append a (x ∷ []))));
      greater = λ j h k. by-test (leb p j)
          (λ t. above j (leb-true p j t) (omega arith))
          (λ t. still j (omega arith) (s.greater j h (leb-false p j t)));
    }
      where
        above : (j : ℕ) → p ≤ j → j ≤ length a → up_to c (a ++ (x ∷ [])) (drop j (a ++ (x ∷ []))) ≡ Ordering.lt
        above j t h =
            let d = drop j a in
            let l = stretch j (j - p) (omega arith) (omega arith) (d ++ (y.letter ∷ [])) y.later
            (before y j t h ∙ sym (append_assoc d (y.letter ∷ []) y.later)) in
            let g = greater-letter w a d y.letter x (omega (arith, length-drop j a, s.positive, s.within)) l o in
            ap (up_to c (a ++ (x ∷ []))) (drop-append-le j a (x ∷ []) h ∙ sym (append-nil (d ++ (x ∷ []))))
            ∙ up_to-more c a (d ++ (x ∷ [])) (x ∷ []) [] (λ q. lt-not-eq g q)
            ∙ g

    -- a smaller letter: the rotation that begins after the period is less, whatever follows
    pub prenecklace-smaller : c y.letter x ≡ Ordering.gt → (e z : List A) → lex c (a ++ (x ∷ e)) (drop p (a ++ (x ∷ e)) ++ z) ≡ Ordering.gt
    prenecklace-smaller o e z =
        ap₂ (lex c)
        (ap (λ l. l ++ (x ∷ e)) y.cut ∙ append_assoc (drop p a) (y.letter ∷ y.later) (x ∷ e))
        (ap (λ l. l ++ z) (drop-append-le p a (x ∷ e) s.within) ∙ append_assoc (drop p a) (x ∷ e) z)
        ∙ lex-strip w (drop p a) (y.letter ∷ (y.later ++ (x ∷ e))) (x ∷ (e ++ z))
        ∙ lex-cons-gt c y.letter x (y.later ++ (x ∷ e)) (e ++ z) o

  -- where the rotation that begins after the period is not less, it is the word itself
  pub turned_same : at_most (lex c) a (drop p a ++ take p a) ≡ true → drop p a ++ take p a ≡ a
  turned_same h =
      let u = take p a in
      let b = drop p a in
      let y = earlier in
      let v = y.letter ∷ y.later in
      let lu : length u ≡ p = length-take-le p a s.within in
      let lb : length b ≡ length a - p = length-drop p a in
      let lv : length v ≡ p = omega (arith, ap length y.cut, length-append b v, s.within) in
      let low : at_most (lex c) v u ≡ true = sym (ap is_le (ap (λ l. lex c l (b ++ u)) y.cut ∙ lex-strip w b v u)) ∙ h in
      let up : at_most (lex c) u v ≡ true =
      sym (ap is_le (ap (λ l. up_to c l v) (sym (take-append-drop p a)) ∙ up_to-length c u b v (lu ∙ sym lv)))
      ∙ stretch (length b) (length b) (omega arith) (omega arith) v [] (ap (drop (length b)) y.cut ∙ drop_at b v (length b) refl ∙ sym (append-nil v)) in
      ap (λ l. b ++ l) (at_most-anti (lex-lawful w) u v up low) ∙ sym y.cut

  -- and turning by a period more changes nothing
  turned_more : drop p a ++ take p a ≡ a → (j : ℕ) → p ≤ j → j ≤ length a → drop j a ++ take j a ≡ drop (j - p) a ++ take (j - p) a
  turned_more q j k h =
      let i = j - p in
      let u = take p a in
      let b = drop p a in
      let sum : p + i ≡ j = omega arith in
      let within : i ≤ length b = omega (arith, length-drop p a) in
      ap₂ ◌++◌ (ap (λ m. drop m a) (sym sum) ∙ sym (drop-drop i p a)) (ap (λ m. take m a) (sym sum) ∙ take-add p i a)
      ∙ sym (append_assoc (drop i b) u (take i b))
      ∙ ap₂ ◌++◌
      (sym (ap (drop i) (sym q) ∙ drop-append-le i b u within))
      (sym (ap (take i) (sym q) ∙ take-append-le i b u within))

  -- a rotation that begins inside of the period is greater
  pub turned-greater : (j : ℕ) → 0 < j → j < p → lex c a (drop j a ++ take j a) ≡ Ordering.lt
  turned-greater j h k =
      let g = s.greater j h k in
      ap (λ l. lex c l (drop j a ++ take j a)) (sym (append-nil a)) ∙ up_to-lex c a (drop j a) [] (take j a) (λ q. lt-not-eq g q) ∙ g

  -- no rotation is less, in the same two parts
  least-inside : (j : ℕ) → j < p → at_most (lex c) a (drop j a ++ take j a) ≡ true
  least-inside zero k = eq-at_most (lex-lawful w) (sym (append-nil a))
  least-inside (suc j) k = ap is_le (turned-greater (suc j) (omega arith) k)

  least-turned : drop p a ++ take p a ≡ a → (n j : ℕ) → j ≤ n → j ≤ length a → at_most (lex c) a (drop j a ++ take j a) ≡ true
  least-turned q zero j k h = least-inside j (omega (arith, s.positive))
  least-turned q (suc n) j k h =
      by-test (leb p j)
      (λ t.
      let u = leb-true p j t in
      ap (at_most (lex c) a) (turned_more q j u h) ∙ least-turned q n (j - p) (omega (arith, s.positive)) (omega arith))
      (λ t. least-inside j (leb-false p j t))

  -- a prenecklace is a necklace if the rotation that begins after the period is not less
  pub necklace : at_most (lex c) a (drop p a ++ take p a) ≡ true → (x y : List A) → a ≡ x ++ y → at_most (lex c) a (y ++ x) ≡ true
  necklace h x y q =
      let n = length x in
      let d : drop n a ≡ y = ap (drop n) q ∙ drop_at x y n refl in
      let t : take n a ≡ x = ap (take n) q ∙ take_at x y n refl in
      ap (at_most (lex c) a) (sym (ap₂ ◌++◌ d t)) ∙ least-turned (turned_same h) n n (omega arith) (omega (arith, ap length q, length-append x y))
