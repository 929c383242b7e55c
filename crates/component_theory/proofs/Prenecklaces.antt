-- A prenecklace is a power of its period, and then a proper beginning of it. If nothing is over, it is a necklace, and as many of its rotations equal it as it
-- has periods; otherwise the rotation by one period is less.
use mathlib.Core.Path.{◌≡◌, ap, ap₂, sym, ◌∙◌, subst}
use mathlib.Core.Bool.{true, false}
use mathlib.Core.List.{List, [], ◌∷◌, ◌++◌, append-nil}
use Prim.Native.Nat.{ℕ, zero, suc, ◌+◌, ◌*◌, ◌≤◌, ◌<◌, Ordering}
use native.Mathlib.Omega.{arith}
use lib.ListN.{length, take, drop, take-append-drop}
use lib.Seq.{length-take-le}
use Rattle.lists.specs.Order.{lex, at_most}
use Rattle.lists.proofs.Tests.{is_false}
use Rattle.lists.proofs.Comparison.{Lawful, lt-not-eq, eq-of-path, eq-at_most}
use Rattle.lists.proofs.Lex.{lex-lawful}
use Rattle.lists.proofs.Necklace.{Prenecklace, earlier, turned_same, turned-greater, necklace}
use Rattle.component_theory.proofs.Powers.{Powers, power, power-turned, powers-of, powers-length, over-short}
use Rattle.component_theory.proofs.RotationSymmetry.{turned, turned-cut, turned-whole, FirstReturn, nothing-over}

turned-at : {A : Type 0} (j : ℕ) (a : List A) → j ≤ length a → turned j a ≡ drop j a ++ take j a
turned-at j a h = ap₂ turned (sym (length-take-le j a h)) (sym (take-append-drop j a)) ∙ turned-cut (take j a) (drop j a)

module _ {A : Type 0} {c : A → A → Ordering} (w : Lawful c) {p : ℕ} {a : List A} (s : Prenecklace c p a) where
  -- a rotation that begins inside of the period is another word
  others : (j : ℕ) → 0 < j → j < p → turned j a ≡ a → ⊥
  others j h k e = lt-not-eq (turned-greater w s j h k) (eq-of-path (lex-lawful w) (sym e ∙ turned-at j a (omega (arith, s.within))))

  pub prenecklace-powers : Powers (take p a) a
  prenecklace-powers =
      let y = earlier w s in
      subst (Powers (take p a)) (take-append-drop p a)
      (powers-of (suc (length (drop p a))) (take p a) (drop p a) (y.letter ∷ y.later) (omega arith)
      (omega (arith, length-take-le p a s.within, s.positive))
      (take-append-drop p a ∙ y.cut))

  -- a whole power turned by its period is itself
  power-back : (q : ℕ) → a ≡ power q (take p a) → turned p a ≡ a
  power-back zero e = absurd (omega (arith, ap length e, s.positive, s.within))
  power-back (suc q) e =
      let u = take p a in
      ap₂ turned (sym (length-take-le p a s.within)) e ∙ turned-cut u (power q u) ∙ power-turned q u ∙ sym e

  module _ (r : Powers (take p a) a) where
    pub period-count : length a ≡ r.times * p + length r.over
    period-count = powers-length r ∙ ap (λ k. r.times * k + length r.over) (length-take-le p a s.within)

    module _ (n : r.over ≡ []) where
      pub whole-return : FirstReturn a p
      whole-return = record {
        positive = s.positive;
        back = power-back r.times (r.is ∙ ap (power r.times (take p a) ++◌) n ∙ append-nil (power r.times (take p a)));
        first = others;
      }

      pub whole-necklace : (x y : List A) → a ≡ x ++ y → at_most (lex c) a (y ++ x) ≡ true
      whole-necklace x y q = necklace w s (eq-at_most (lex-lawful w) (sym whole-return.back ∙ turned-at p a s.within)) x y q

    pub over-less : 0 < length r.over → at_most (lex c) a (drop p a ++ take p a) ≡ false
    over-less h =
        is_false (at_most (lex c) a (drop p a ++ take p a))
        (λ g.
        let t : FirstReturn a p = record { positive = s.positive; back = turned-at p a s.within ∙ turned_same w s g; first = others } in
        let none = nothing-over t r.times (length r.over) (omega (arith, over-short r, length-take-le p a s.within))
        (ap (λ k. turned k a) (sym period-count) ∙ turned-whole a) in
        omega (arith, none))
