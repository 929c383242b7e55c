-- The size in front of a line: cut short, out of the format, in each of its forms, of too many points, and in a longer form than needed.
use mathlib.Core.Path.{◌≡◌, ap, sym, ◌∙◌}
use mathlib.Core.Bool.{true, false}
use mathlib.Core.List.{List}
use Prim.Native.Nat.{ℕ, ◌+◌, ◌-◌, ◌≤◌, ◌<◌}
use native.Mathlib.Omega.{arith}
use lib.ListN.{length, get_or, take, drop, length-take, length-drop}
use lib.Seq.{length-take-le}
use borrow.Author.Tests.{lt-ltb, le-ltb, eq-eqb, ne_eqb}
use Rattle.lists.specs.Select.{each}
use Rattle.patterns.specs.declared.Refusal.{Refusal}
use Rattle.patterns.specs.declared.Refusal.TheVariants.{Count, LineForm}
use Rattle.patterns.specs.Reading.{done, fault}
use Rattle.patterns.specs.Digraph6.{size_field, in_format, size_value, sized, read_size, read_count}

-- the k bytes after the first j, as a part of s
abbrev pub digits_of : ℕ → ℕ → List ℕ → List ℕ
digits_of j k s = take (j + k - j) (drop j s)

module _ (s : List ℕ) (j k : ℕ) where
  whole : digits_of j k s ≡ take k (drop j s)
  whole = let e : j + k - j ≡ k = omega arith in ap (λ m. take m (drop j s)) e

  pub sized-short : 0 < k → length s < j + k → fault LineForm ≡ sized j k s
  unfolding sized
  sized-short some h =
      let short : length (take k (drop j s)) ≡ k → ⊥ = λ e. omega (arith, e, length-take k (drop j s), length-drop j s) in
      rw (ne_eqb (length (take k (drop j s))) k short)

  module _ (h : j + k ≤ length s) where
    length_digits : length (take k (drop j s)) ≡ k
    length_digits = length-take-le k (drop j s) (omega (arith, length-drop j s))

    pub digits-length : length (digits_of j k s) ≡ k
    digits-length = ap length whole ∙ length_digits

    pub sized-form : each in_format (digits_of j k s) ≡ false → fault LineForm ≡ sized j k s
    unfolding sized
    sized-form e =
        let f : each in_format (take k (drop j s)) ≡ false = ap (each in_format) (sym whole) ∙ e in
        rw (eq-eqb (length (take k (drop j s))) k length_digits, f)

    pub sized-read : {n : ℕ} → each in_format (digits_of j k s) ≡ true → n ≡ size_value 0 (digits_of j k s) → done (n, j + k) ≡ sized j k s
    unfolding sized
    sized-read {n} e v =
        let f : each in_format (take k (drop j s)) ≡ true = ap (each in_format) (sym whole) ∙ e in
        let value : n ≡ size_value 0 (take k (drop j s)) = v ∙ ap (size_value 0) whole in
        rw (eq-eqb (length (take k (drop j s))) k length_digits, f, value)

-- which of the three forms
module _ (s : List ℕ) where
  pub one-byte-form : (get_or s 0 0 ≡ 126 → ⊥) → sized 0 1 s ≡ read_size s
  unfolding read_size
  one-byte-form h = rw (ne_eqb (get_or s 0 0) 126 h)

  pub four-byte-form : get_or s 0 0 ≡ 126 → (get_or s 1 0 ≡ 126 → ⊥) → sized 1 3 s ≡ read_size s
  unfolding read_size
  four-byte-form h k = rw (eq-eqb (get_or s 0 0) 126 h, ne_eqb (get_or s 1 0) 126 k)

  pub eight-byte-form : get_or s 0 0 ≡ 126 → get_or s 1 0 ≡ 126 → sized 2 6 s ≡ read_size s
  unfolding read_size
  eight-byte-form h k = rw (eq-eqb (get_or s 0 0) 126 h, eq-eqb (get_or s 1 0) 126 k)

  -- a size that was not read
  pub count-unread : {c : Refusal} → fault c ≡ read_size s → fault c ≡ read_count s
  unfolding read_count
  count-unread e = rw (← e)

  module _ {n used : ℕ} (e : read_size s ≡ done (n, used)) where
    pub count-large : 200 < n → fault Count ≡ read_count s
    unfolding read_count
    count-large h = rw (e, lt-ltb 200 n h)

    pub count-longer : n ≤ 200 → (used ≡ length (size_field n) → ⊥) → fault LineForm ≡ read_count s
    unfolding read_count
    count-longer h k = rw (e, le-ltb 200 n h, ne_eqb used (length (size_field n)) k)

    pub count-read : n ≤ 200 → used ≡ length (size_field n) → done (n, used) ≡ read_count s
    unfolding read_count
    count-read h k = rw (e, le-ltb 200 n h, eq-eqb used (length (size_field n)) k)
