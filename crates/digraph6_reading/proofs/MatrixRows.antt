-- Reading the rows of a matrix by the bits that are 1, from one to the next.
use mathlib.Core.Path.{◌≡◌, refl, ap, sym, ◌∙◌}
use mathlib.Core.Bool.{true}
use mathlib.Core.List.{List, [], ◌∷◌, ◌++◌, append-nil}
use Prim.Native.Nat.{ℕ, suc, ◌+◌, ◌-◌, ◌*◌, ◌≤◌, ◌<◌}
use native.Mathlib.Nat.{zero-mul, suc-mul, sub-zero}
use native.Mathlib.Numerals.{add-one}
use native.Mathlib.Omega.{arith}
use lib.Dec.{eqb, ltb}
use lib.ListN.{length, get_or, take, drop, set, length-set, length-drop}
use lib.Seq.{get_or-take, get_or-drop, length-take-le, drop-drop, take-suc-set, take_all}
use borrow.Author.Tests.{eq-eqb, ne_eqb, eqb-true, eqb-false, ltb-true, ltb-false}
use Rattle.lists.specs.Select.{range}
use Rattle.lists.proofs.Tests.{◌∈◌, by-test}
use Rattle.lists.proofs.Members.{in-range, of_range, in-keep, keep-none, in-single, nodup_range}
use Rattle.lists.proofs.Gathering.{keep_one}
use Rattle.lists.proofs.EqualPieces.{piece-within}
use Rattle.patterns.specs.declared.Refusal.TheVariants.{OutDegree}
use Rattle.patterns.specs.Reading.{done, fault, mapped}
use Rattle.patterns.specs.Digraph6.{is_neighbour, neighbours, only_neighbour, read_matrix}
use Rattle.form_theory.proofs.Results.{mapped-none, mapped-more}
use Rattle.digraph6_reading.specs.LineResults.{FirstOne, matrix_result}
use Rattle.digraph6_reading.proofs.FirstOnes.{first-later}

-- rows in which no bit, one bit, two bits are 1
module _ (r : List ℕ) where
  no-neighbours : ((j : ℕ) → j < length r → get_or r j 0 ≡ 0) → neighbours r ≡ []
  no-neighbours h =
      keep-none (is_neighbour r) (range 0 (length r)) (λ j m.
      let w : (0 ≤ j) × (j < 0 + length r) = of_range 0 (length r) m in
      ne_eqb (get_or r j 0) 1 (λ e. omega (arith, e, h j (omega arith))))

  one-neighbour : (y : ℕ) → y < length r → get_or r y 0 ≡ 1 → ((j : ℕ) → j < length r → (j ≡ y → ⊥) → get_or r j 0 ≡ 0) → neighbours r ≡ y ∷ []
  one-neighbour y h e others =
      keep_one (is_neighbour r) (nodup_range 0 (length r)) (in-range 0 (length r) (omega arith) (omega arith)) (eq-eqb (get_or r y 0) 1 e) (λ j m t.
      let w : (0 ≤ j) × (j < 0 + length r) = of_range 0 (length r) m in
      by-test (eqb j y)
      (λ u. eqb-true j y u)
      (λ u. absurd (omega (arith, eqb-true (get_or r j 0) 1 t, others j (omega arith) (eqb-false j y u)))))

  in-neighbours : (y : ℕ) → y < length r → get_or r y 0 ≡ 1 → y ∈ neighbours r
  in-neighbours y h e = in-keep (is_neighbour r) (in-range 0 (length r) (omega arith) (omega arith)) (eq-eqb (get_or r y 0) 1 e)

two-members : (l : List ℕ) {y z : ℕ} → y ∈ l → z ∈ l → (y ≡ z → ⊥) → only_neighbour l ≡ fault OutDegree
two-members [] m k h = refl
two-members (x ∷ []) m k h = absurd (h (in-single m ∙ sym (in-single k)))
two-members (x ∷ y ∷ l) m k h = refl

-- what is read of k rows, the first of which is given
module _ (n k : ℕ) (bits : List ℕ) where
  pub rows-refused : only_neighbour (neighbours (take n bits)) ≡ fault OutDegree → read_matrix n (suc k) bits ≡ fault OutDegree
  unfolding read_matrix
  rows-refused e = rw e

  pub rows-first : {y : ℕ} → neighbours (take n bits) ≡ y ∷ [] → read_matrix n (suc k) bits ≡ mapped (y ∷◌) (read_matrix n k (drop n bits))
  unfolding read_matrix
  rows-first e = rw e

-- the first i points have their images in the table, and from their rows on the first bit that is 1 stands at `one`
pub record RowsRead (n : ℕ) (bits table : List ℕ) (one i : ℕ) : Type 0 where
  pub within : i ≤ n
  pub count : length table ≡ n
  pub first_one : FirstOne bits (i * n) one
  pub rest : read_matrix n n bits ≡ mapped (take i table ++◌) (read_matrix n (n - i) (drop (i * n) bits))

pub rows_start : (bits table : List ℕ) {one : ℕ} → FirstOne bits 0 one → RowsRead (length table) bits table one 0
rows_start bits table {one} w =
    let n = length table in
    let z : 0 ≡ 0 * n = sym (zero-mul n) in
    record {
      within = omega arith;
      count = refl;
      first_one = rw z at w;
      rest = rw (zero-mul n, sub-zero n) (mapped-none (read_matrix n n bits));
    }

module _ {n : ℕ} {bits table : List ℕ} {one i : ℕ} (w : RowsRead n bits table one i) (whole : n * n ≤ length bits) (h : i < n) where
  abbrev this_row : List ℕ
  this_row = take n (drop (i * n) bits)

  pub row_within : i * n + n ≤ n * n
  row_within = piece-within n h

  row_count : length this_row ≡ n
  row_count = length-take-le n (drop (i * n) bits) (omega (arith, length-drop (i * n) bits, row_within))

  row-bit : (j : ℕ) → j < n → get_or this_row j 0 ≡ get_or bits (i * n + j) 0
  row-bit j k = get_or-take n (drop (i * n) bits) j 0 k ∙ get_or-drop (i * n) bits j 0

  rows_left : n - i ≡ suc (n - (i + 1))
  rows_left = omega arith

  refused : only_neighbour (neighbours this_row) ≡ fault OutDegree → fault OutDegree ≡ read_matrix n n bits
  refused e =
      sym (w.rest
      ∙ ap (λ k. mapped (take i table ++◌) (read_matrix n k (drop (i * n) bits))) rows_left
      ∙ ap (mapped (take i table ++◌)) (rows-refused n (n - (i + 1)) (drop (i * n) bits) e))

  -- there is none in this row
  pub rows_none : i * n + n ≤ one → fault OutDegree ≡ read_matrix n n bits
  rows_none far =
      refused (ap only_neighbour (no-neighbours this_row (λ j k.
      row-bit j (omega (arith, row_count)) ∙ w.first_one.zeros (i * n + j) (omega arith) (omega (arith, row_count)))))

  module _ (near : one < i * n + n) where
    here : i * n ≤ one
    here = w.first_one.from

    this-one : get_or this_row (one - i * n) 0 ≡ 1
    this-one =
        let f = here in
        let e : i * n + (one - i * n) ≡ one = omega arith in
        row-bit (one - i * n) (omega arith) ∙ ap (λ q. get_or bits q 0) e ∙ w.first_one.one (omega (arith, row_within))

    pub image-below : one - i * n < n
    image-below = let f = here in omega arith

    module _ {another : ℕ} (v : FirstOne bits (one + 1) another) where
      -- there is a second one in it
      pub rows-second : another < i * n + n → fault OutDegree ≡ read_matrix n n bits
      rows-second k =
          let f = here in
          let g = v.from in
          let e : i * n + (another - i * n) ≡ another = omega arith in
          let that : get_or this_row (another - i * n) 0 ≡ 1 =
          row-bit (another - i * n) (omega arith) ∙ ap (λ q. get_or bits q 0) e ∙ v.one (omega (arith, row_within)) in
          refused (two-members (neighbours this_row)
          (in-neighbours this_row (one - i * n) (omega (arith, row_count)) this-one)
          (in-neighbours this_row (another - i * n) (omega (arith, row_count)) that)
          (λ q. omega (arith, q)))

      -- it is the only one
      only_one : i * n + n ≤ another → neighbours this_row ≡ (one - i * n) ∷ []
      only_one far =
          one-neighbour this_row (one - i * n) (omega (arith, row_count, image-below)) this-one (λ j k other.
          let f = here in
          row-bit j (omega (arith, row_count))
          ∙ by-test (ltb (i * n + j) one)
          (λ t. w.first_one.zeros (i * n + j) (omega arith) (ltb-true (i * n + j) one t))
          (λ t. v.zeros (i * n + j) (omega (arith, ltb-false (i * n + j) one t, other)) (omega (arith, row_count))))

      pub rows_next : i * n + n ≤ another → RowsRead n bits (set table i (one - i * n)) another (i + 1)
      rows_next far =
          let y = one - i * n in
          let next : i * n + n ≡ (i + 1) * n = omega (arith, suc-mul i n, ap (λ m. m * n) (add-one i)) in
          let c = w.count in
          let taken : take (i + 1) (set table i y) ≡ take i table ++ (y ∷ []) = rw (add-one i) (take-suc-set table i y (omega arith)) in
          record {
            within = omega arith;
            count = length-set table i y ∙ c;
            first_one = first-later v ((i + 1) * n) (omega (arith, next)) (omega (arith, next));
            rest =
                w.rest
                ∙ ap (λ k. mapped (take i table ++◌) (read_matrix n k (drop (i * n) bits))) rows_left
                ∙ ap (mapped (take i table ++◌)) (rows-first n (n - (i + 1)) (drop (i * n) bits) (only_one far))
                ∙ mapped-more (take i table) y (read_matrix n (n - (i + 1)) (drop n (drop (i * n) bits)))
                ∙ ap (λ a. mapped (a ++◌) (read_matrix n (n - (i + 1)) (drop n (drop (i * n) bits)))) (sym taken)
                ∙ ap (λ d. mapped (take (i + 1) (set table i y) ++◌) (read_matrix n (n - (i + 1)) d)) (drop-drop n (i * n) bits ∙ ap (λ m. drop m bits) next);
          }

pub rows_end : {n : ℕ} {bits table : List ℕ} {one i : ℕ} → RowsRead n bits table one i → n ≤ i → matrix_result true table ≡ read_matrix n n bits
unfolding read_matrix
rows_end {n} {bits} {table} {one} {i} w h =
    let k = w.within in
    let c = w.count in
    let none_left : n - i ≡ 0 = omega arith in
    sym (w.rest
    ∙ ap (λ k. mapped (take i table ++◌) (read_matrix n k (drop (i * n) bits))) none_left
    ∙ ap done (append-nil (take i table) ∙ take_all i table (omega arith)))
