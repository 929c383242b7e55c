-- One bit more: the byte that holds it grows by the bit's weight, and no other byte changes.
use mathlib.Core.Path.{◌≡◌, ap, ap₂, sym, ◌∙◌}
use mathlib.Core.Bool.{cond}
use mathlib.Core.List.{List}
use Prim.Native.Nat.{ℕ, zero, suc, ◌+◌, ◌*◌, ◌/◌, ◌%◌, ◌≤◌, ◌<◌}
use native.Mathlib.Nat.{add-zero}
use native.Mathlib.Omega.{arith}
use lib.Dec.{eqb}
use lib.ListN.{get_or, drop, set, length-set}
use lib.Seq.{get_or-drop, get_or-set_same, get_or-set_other, ext_get_or}
use borrow.Author.Tests.{eq-eqb, ne_eqb, eqb-true, eqb-false}
use Rattle.lists.proofs.Tests.{by-test, same_tests}
use Rattle.patterns.specs.Digraph6.{sextet, packed}
use Rattle.line_theory.proofs.Packing.{packed-length}
use Rattle.line_theory.proofs.LinePlaces.{packed-at}
use Rattle.digraph6_writing.specs.BodyPlaces.{weight_of}

-- b has one more than a at place p, and elsewhere the same; a bit that is missing is 0
abbrev pub OneMore : List ℕ → List ℕ → ℕ → Type 0
OneMore a b p = (q : ℕ) → get_or b q 0 ≡ get_or a q 0 + cond (eqb q p) 1 0

-- the byte of place p with that bit
abbrev pub with_bit : List ℕ → ℕ → ℕ
with_bit body p = get_or body (p / 6) 0 + weight_of (p % 6)

pub weight-small : (j : ℕ) → weight_of j ≤ 32
weight-small zero = omega arith
weight-small (suc zero) = omega arith
weight-small (suc (suc zero)) = omega arith
weight-small (suc (suc (suc zero))) = omega arith
weight-small (suc (suc (suc (suc zero)))) = omega arith
weight-small (suc (suc (suc (suc (suc zero))))) = omega arith
weight-small (suc (suc (suc (suc (suc (suc j)))))) = omega arith

-- within six bits
sextet-more : (a b : List ℕ) (j : ℕ) → j < 6 → OneMore a b j → sextet b ≡ sextet a + weight_of j
sextet-more a b zero h m = omega (arith, m 0, m 1, m 2, m 3, m 4, m 5)
sextet-more a b (suc zero) h m = omega (arith, m 0, m 1, m 2, m 3, m 4, m 5)
sextet-more a b (suc (suc zero)) h m = omega (arith, m 0, m 1, m 2, m 3, m 4, m 5)
sextet-more a b (suc (suc (suc zero))) h m = omega (arith, m 0, m 1, m 2, m 3, m 4, m 5)
sextet-more a b (suc (suc (suc (suc zero)))) h m = omega (arith, m 0, m 1, m 2, m 3, m 4, m 5)
sextet-more a b (suc (suc (suc (suc (suc zero))))) h m = omega (arith, m 0, m 1, m 2, m 3, m 4, m 5)
sextet-more a b (suc (suc (suc (suc (suc (suc j)))))) h m = absurd (omega arith)

-- places moved by i
moved : (i q p : ℕ) → eqb (i + q) (i + p) ≡ eqb q p
moved i q p =
    same_tests (eqb (i + q) (i + p)) (eqb q p)
    (λ t. eq-eqb q p (omega (arith, eqb-true (i + q) (i + p) t)))
    (λ t. eq-eqb (i + q) (i + p) (omega (arith, eqb-true q p t)))

module _ (a b : List ℕ) (p : ℕ) (m : OneMore a b p) where
  -- the byte that holds place p
  byte_more : sextet (drop (6 * (p / 6)) b) ≡ sextet (drop (6 * (p / 6)) a) + weight_of (p % 6)
  byte_more =
      let i = 6 * (p / 6) in
      let e : p ≡ i + p % 6 = omega arith in
      sextet-more (drop i a) (drop i b) (p % 6) (omega arith) (λ q.
      get_or-drop i b q 0 ∙ m (i + q) ∙ ap₂ (λ x t. x + cond t 1 0) (sym (get_or-drop i a q 0)) (ap (eqb (i + q)) e ∙ moved i q (p % 6)))

  bit_kept : (i j : ℕ) → (i + j ≡ p → ⊥) → get_or (drop i b) j 0 ≡ get_or (drop i a) j 0
  bit_kept i j n = get_or-drop i b j 0 ∙ rw (ne_eqb (i + j) p n, add-zero) at (m (i + j)) ∙ sym (get_or-drop i a j 0)

  -- any other byte
  byte-kept : (i : ℕ) → (i ≡ p / 6 → ⊥) → sextet (drop (6 * i) b) ≡ sextet (drop (6 * i) a)
  byte-kept i n =
      let kept : (j : ℕ) → j < 6 → get_or (drop (6 * i) b) j 0 ≡ get_or (drop (6 * i) a) j 0 = λ j h. bit_kept (6 * i) j (λ e. n (omega arith)) in
      rw (kept 0 (omega arith), kept 1 (omega arith), kept 2 (omega arith), kept 3 (omega arith), kept 4 (omega arith), kept 5 (omega arith))

  pub packed_more : (k : ℕ) → p < k * 6 → packed k b ≡ set (packed k a) (p / 6) (with_bit (packed k a) p)
  packed_more k h =
      let at = p / 6 in
      let byte = with_bit (packed k a) p in
      let stored = get_or-set_same (packed k a) at byte 0 (omega (arith, packed-length k a)) in
      ext_get_or 0 (packed k b) (set (packed k a) at byte) (packed-length k b ∙ sym (simp length-set (packed-length k a))) (λ i g.
      let within : i < k = omega (arith, packed-length k b) in
      by-test (eqb i at)
      (λ t. rw (eqb-true i at t) (omega (arith, packed-at k at a (omega arith), packed-at k at b (omega arith), byte_more, stored)))
      (λ t. packed-at k i b within
      ∙ ap (λ s. 63 + s) (byte-kept i (eqb-false i at t))
      ∙ sym (get_or-set_other (packed k a) at i byte 0 (eqb-false i at t) ∙ packed-at k i a within)))
