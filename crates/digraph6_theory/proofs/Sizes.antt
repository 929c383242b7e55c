-- The size in front of a line: what is read stands there in its shortest form, and the shortest form is read back.
use mathlib.Core.Path.{◌≡◌, refl, ap}
use mathlib.Core.Bool.{true, cond, ◌&&◌}
use mathlib.Core.List.{List, [], ◌∷◌, ◌++◌}
use Prim.Native.Nat.{ℕ, ◌+◌, ◌-◌, ◌*◌, ◌/◌, ◌%◌, ◌≤◌, ◌<◌}
use native.Mathlib.Omega.{arith}
use lib.Dec.{ltb, eqb}
use lib.ListN.{length, get_or, take, drop}
use borrow.Author.Tests.{lt-ltb, le-ltb, ne_eqb, eqb-true, eqb-false, ltb-true, ltb-false}
use Rattle.lists.specs.Select.{each}
use Rattle.lists.proofs.Tests.{by-test, and-true, choose-case, each-head, each_tail}
use Rattle.patterns.specs.declared.Refusal.{Refusal}
use Rattle.patterns.specs.declared.Refusal.TheVariants.{Count}
use Rattle.patterns.specs.Reading.{done, fault}
use Rattle.form_theory.proofs.Results.{Good, good-then, good-weaken}
use Rattle.digraph6_theory.specs.Digraph6.{size_field, in_format, number, sized, read_size, shortest, read_count}
use Rattle.digraph6_theory.proofs.Packing.{in-format, format-in}

-- the number in the digits, and the bytes that the size takes
abbrev Digits : ℕ → ℕ → List ℕ → ℕ × ℕ → Type 0
Digits j k s p =
    (p.0 ≡ number 0 (take k (drop j s))) × (p.1 ≡ j + k) × (length (take k (drop j s)) ≡ k) × (each in_format (take k (drop j s)) ≡ true)

-- a size in the shortest form stands in front
abbrev Fronts : List ℕ → ℕ × ℕ → Type 0
Fronts s p = p.1 ≡ length (size_field p.0) → s ≡ size_field p.0 ++ drop p.1 s

-- a size that is read, of at most 200 points
abbrev pub Counted : List ℕ → ℕ × ℕ → Type 0
Counted s p = (p.0 ≤ 200) × (s ≡ size_field p.0 ++ drop p.1 s)

one_byte : (s : List ℕ) (p : ℕ × ℕ) → (get_or s 0 0 ≡ 126 → ⊥) → Digits 0 1 s p → Fronts s p
one_byte [] p h q e = absurd (omega (arith, q.2))
one_byte (x ∷ s) p h q e =
    let f = in-format x (each-head in_format x [] q.3) in
    let value : p.0 ≡ 0 * 64 + (x - 63) = q.0 in
    let first : x ≡ 63 + p.0 = omega (arith, f.0) in
    let small : p.0 < 63 = omega (arith, f.1, h) in
    rw (q.1, lt-ltb p.0 63 small) (ap (◌∷ s) first)

four_bytes : (s : List ℕ) (p : ℕ × ℕ) → get_or s 0 0 ≡ 126 → Digits 1 3 s p → Fronts s p
four_bytes [] p h q e = absurd (omega (arith, q.2))
four_bytes (x ∷ []) p h q e = absurd (omega (arith, q.2))
four_bytes (x ∷ a ∷ []) p h q e = absurd (omega (arith, q.2))
four_bytes (x ∷ a ∷ b ∷ []) p h q e = absurd (omega (arith, q.2))
four_bytes (x ∷ a ∷ b ∷ c ∷ s) p h q e =
    by-test (ltb p.0 63)
    (λ t. let one : p.1 ≡ 1 = rw t at e in
    absurd (omega (arith, q.1)))
    (λ t. let after : each in_format (b ∷ c ∷ []) ≡ true = each_tail in_format a (b ∷ c ∷ []) q.3 in
    let fa : (63 ≤ a) × (a ≤ 126) = in-format a (each-head in_format a (b ∷ c ∷ []) q.3) in
    let fb : (63 ≤ b) × (b ≤ 126) = in-format b (each-head in_format b (c ∷ []) after) in
    let fc : (63 ≤ c) × (c ≤ 126) = in-format c (each-head in_format c [] (each_tail in_format b (c ∷ []) after)) in
    let value : p.0 ≡ ((0 * 64 + (a - 63)) * 64 + (b - 63)) * 64 + (c - 63) = q.0 in
    let pa : 63 + p.0 / 4096 ≡ a = omega arith in
    let pb : 63 + p.0 / 64 % 64 ≡ b = omega arith in
    let pc : 63 + p.0 % 64 ≡ c = omega arith in
    rw (q.1, t, h, pa, pb, pc))

pub size_field-length : (n : ℕ) → length (size_field n) ≤ 4
size_field-length n = choose-case (λ l. length l ≤ 4) (ltb n 63) (λ t. omega arith) (λ t. omega arith)

module _ (line_form : Refusal) where
  sized-good : (j k : ℕ) (s : List ℕ) → Good (Digits j k s) (sized line_form j k s)
  unfolding sized
  sized-good j k s =
      let digits = take k (drop j s) in
      choose-case (Good (Digits j k s)) (eqb (length digits) k && each in_format digits)
      (λ t. let h = and-true (eqb (length digits) k) (each in_format digits) t in
      (refl, refl, eqb-true (length digits) k h.0, h.1))
      (λ t. tt)

  size-good : (s : List ℕ) → Good (Fronts s) (read_size line_form s)
  unfolding read_size
  size-good s =
      choose-case (Good (Fronts s)) (eqb (get_or s 0 0) 126)
      (λ t. choose-case (Good (Fronts s)) (eqb (get_or s 1 0) 126)
      (λ u. good-weaken (Digits 2 6 s) (Fronts s) (sized line_form 2 6 s) (sized-good 2 6 s) (λ p q e. absurd (omega (arith, q.1, size_field-length p.0))))
      (λ u. good-weaken (Digits 1 3 s) (Fronts s) (sized line_form 1 3 s) (sized-good 1 3 s) (λ p q. four_bytes s p (eqb-true (get_or s 0 0) 126 t) q)))
      (λ t. good-weaken (Digits 0 1 s) (Fronts s) (sized line_form 0 1 s) (sized-good 0 1 s) (λ p q. one_byte s p (eqb-false (get_or s 0 0) 126 t) q))

  pub count-good : (s : List ℕ) → Good (Counted s) (read_count line_form s)
  unfolding read_count
  count-good s =
      good-then (Fronts s) (Counted s) (read_size line_form s) (λ p. cond (ltb 200 p.0) (fault Count) (shortest line_form p)) (size-good s) (λ p q.
      choose-case (Good (Counted s)) (ltb 200 p.0) (λ t. tt) (λ t.
      choose-case (Good (Counted s)) (eqb p.1 (length (size_field p.0)))
      (λ u. (ltb-false 200 p.0 t, q (eqb-true p.1 (length (size_field p.0)) u))) (λ u. tt)))

  -- the shortest form of n is read back as n
  pub count-back : (n : ℕ) (rest : List ℕ) → n ≤ 200 → read_count line_form (size_field n ++ rest) ≡ done (n, length (size_field n))
  unfolding read_count
  count-back n rest h =
      by-test (ltb n 63)
      (λ t. let small : n < 63 = ltb-true n 63 t in
      let x = 63 + n in
      let e : 0 * 64 + (x - 63) ≡ n = omega arith in
      rw (t, ne_eqb x 126 (omega arith), format-in x (omega arith) (omega arith), e, le-ltb 200 n h, t))
      (λ t. let large : 63 ≤ n = ltb-false n 63 t in
      let x = 63 + n / 4096 in
      let y = 63 + n / 64 % 64 in
      let z = 63 + n % 64 in
      let e : ((0 * 64 + (x - 63)) * 64 + (y - 63)) * 64 + (z - 63) ≡ n = omega arith in
      rw (
        t,
        ne_eqb x 126 (omega arith),
        format-in x (omega arith) (omega arith),
        format-in y (omega arith) (omega arith),
        format-in z (omega arith) (omega arith),
        e,
        le-ltb 200 n h,
        t,
      ))
