-- Powers of a word. A word that stands behind a part of itself is a power of this part and a proper beginning of it [M. Lothaire, Combinatorics on Words, 1983, 1.3].
use mathlib.Core.Path.{◌≡◌, refl, ap, ap₂, sym, ◌∙◌, subst}
use mathlib.Core.List.{List, [], ◌∷◌, ◌++◌, append_assoc, append-nil}
use Prim.Native.Nat.{ℕ, zero, suc, ◌+◌, ◌*◌, ◌<◌}
use native.Mathlib.Nat.{zero-mul, suc-mul}
use native.Mathlib.Omega.{arith}
use lib.ListN.{length, length-append}
use Rattle.lists.specs.Select.{total}
use Rattle.lists.proofs.Tests.{either}
use Rattle.lists.proofs.Permute.{total-append, total-one}
use Rattle.patterns.proofs.Rotations.{cuts}

-- u, q times
abbrev pub power : {A : Type 0} → ℕ → List A → List A
power zero u = []
power (suc q) u = u ++ power q u

-- a is a power of u, and then a proper beginning of u
pub record Powers {A : Type 0} (u a : List A) : Type 0 where
  pub times : ℕ
  pub over : List A
  pub letter : A
  pub later : List A
  pub begins : u ≡ over ++ (letter ∷ later)
  pub is : a ≡ power times u ++ over

module _ {A : Type 0} where
  total-power : (g : A → ℕ) (q : ℕ) (u : List A) → total g (power q u) ≡ q * total g u
  total-power g zero u = sym (zero-mul (total g u))
  total-power g (suc q) u = omega (arith, total-append g u (power q u), total-power g q u, suc-mul q (total g u))

  -- u goes round
  pub power-turned : (q : ℕ) (u : List A) → power q u ++ u ≡ u ++ power q u
  power-turned zero u = sym (append-nil u)
  power-turned (suc q) u = append_assoc u (power q u) u ∙ ap (u ++◌) (power-turned q u)

  -- one more
  more : {u b : List A} → Powers u b → Powers u (u ++ b)
  more {u} r = record {
    times = suc r.times;
    over = r.over;
    letter = r.letter;
    later = r.later;
    begins = r.begins;
    is = ap (u ++◌) r.is ∙ sym (append_assoc u (power r.times u) r.over);
  }

  -- one, and a beginning of u that is not all of it
  one : (b m : List A) → 0 < length (b ++ m) → Powers (b ++ m) ((b ++ m) ++ b)
  one b (y ∷ z) h = record { times = 1; over = b; letter = y; later = z; begins = refl; is = ap (◌++ b) (sym (append-nil (b ++ (y ∷ z)))) }
  one [] [] h = absurd (omega arith)
  one (y ∷ z) [] h =
      let u = (y ∷ z) ++ [] in
      record {
        times = 2;
        over = [];
        letter = y;
        later = z ++ [];
        begins = refl;
        is = ap (u ++◌) (sym (append-nil (y ∷ z)) ∙ sym (append-nil u)) ∙ sym (append-nil (power 2 u));
      }

  pub powers-of : (n : ℕ) (u b v : List A) → length b < n → 0 < length u → u ++ b ≡ b ++ v → Powers u (u ++ b)
  powers-of zero u b v k h e = absurd (omega arith)
  powers-of (suc n) u b v k h e =
      either (cuts u b b v e)
      (λ r. more (subst (Powers u) (sym r.1) (powers-of n u r.0 v (omega (arith, ap length r.1, length-append u r.0)) h (sym r.1 ∙ r.2))))
      (λ r. subst (λ w. Powers w (w ++ b)) (sym r.1) (one b r.0 (omega (arith, ap length r.1))))

module _ {A : Type 0} {u a : List A} (r : Powers u a) where
  pub powers-total : (g : A → ℕ) → total g a ≡ r.times * total g u + total g r.over
  powers-total g = ap (total g) r.is ∙ total-append g (power r.times u) r.over ∙ ap (λ k. k + total g r.over) (total-power g r.times u)

  pub powers-length : length a ≡ r.times * length u + length r.over
  powers-length = sym (total-one a) ∙ powers-total (λ x. 1) ∙ ap₂ (λ k l. r.times * k + l) (total-one u) (total-one r.over)

  pub over-short : length r.over < length u
  over-short = omega (arith, ap length r.begins, length-append r.over (r.letter ∷ r.later))

  pub over-light : (g : A → ℕ) → ((x : A) → 0 < g x) → total g r.over < total g u
  over-light g h = omega (arith, ap (total g) r.begins, total-append g r.over (r.letter ∷ r.later), h r.letter)
