-- A row has its one mark at the point's image, and the rows of a matrix are read back as the map; rows that are read are those of the map.
use mathlib.Core.Path.{◌≡◌, refl, ap, ap₂, sym, ◌∙◌}
use mathlib.Core.Bool.{true, cond}
use mathlib.Core.List.{List, [], ◌∷◌, ◌++◌, append_assoc}
use Prim.Native.Nat.{ℕ, zero, suc, ◌+◌, ◌*◌, ◌≤◌, ◌<◌}
use native.Mathlib.Nat.{zero-add, zero-mul, suc-mul}
use native.Mathlib.Omega.{arith}
use lib.Dec.{eqb}
use lib.ListN.{length, get_or, take, drop, length-map, length-drop}
use lib.Seq.{take_at, drop_at, get_or-take, get_or-drop, length-take-le, take-add, ext_get_or}
use borrow.Author.Tests.{eq-eqb, eqb-true, eqb-false}
use Rattle.lists.specs.Select.{keep, gather, range}
use Rattle.lists.proofs.Tests.{◌∈◌, by-test, same_tests, choose-case}
use Rattle.lists.proofs.Members.{in_head, in-range, of_range, in-keep, of-keep, in_list, in-single, nodup_range}
use Rattle.lists.proofs.Places.{range_length, get_d-range}
use Rattle.lists.proofs.Gathering.{keep_one, get_d_map}
use Rattle.lists.proofs.EqualPieces.{pieces-length}
use Rattle.patterns.specs.declared.Refusal.{Refusal}
use Rattle.patterns.specs.Reading.{done, mapped}
use Rattle.form_theory.proofs.Results.{Good, good-then, good-mapped}
use Rattle.form_theory.proofs.Bounds.{all_below, below-cons, below-head, below-tail, below-append, below_at}
use Rattle.digraph6_theory.specs.Digraph6.{row, is_mark, marks, only_mark, read_rows}
use Rattle.digraph6_theory.proofs.Packing.{Bits, bit_at}

pub row-length : (n y : ℕ) → length (row n y) ≡ n
row-length n y = length-map (range 0 n) (λ j. cond (eqb j y) 1 0) ∙ range_length 0 n

pub row_at : (n y i : ℕ) → i < n → get_or (row n y) i 0 ≡ cond (eqb i y) 1 0
row_at n y i h =
    get_d_map (λ j. cond (eqb j y) 1 0) (range 0 n) i 0 0 (omega (arith, range_length 0 n)) ∙ ap (λ j. cond (eqb j y) 1 0) (get_d-range 0 n i 0 h ∙ zero-add i)

-- the mark stands at y and nowhere else
row-marked : (n y i : ℕ) → i < n → is_mark (row n y) i ≡ eqb i y
row-marked n y i h = ap (λ v. eqb v 1) (row_at n y i h) ∙ by-test (eqb i y) (λ t. rw t) (λ t. rw t)

row-mark : (n y : ℕ) → y < n → marks (row n y) ≡ y ∷ []
row-mark n y h =
    ap (λ k. keep (is_mark (row n y)) (range 0 k)) (row-length n y)
    ∙ keep_one (is_mark (row n y)) (nodup_range 0 n) (in-range 0 n (omega arith) (omega arith)) (row-marked n y y h ∙ eq-eqb y y refl) (λ j m t.
    let r : (0 ≤ j) × (j < 0 + n) = of_range 0 n m in
    eqb-true j y (sym (row-marked n y j (omega arith)) ∙ t))

-- a row of bits with one mark: the mark is within the row, and the row is that of the mark
module _ (r : List ℕ) (y : ℕ) (e : marks r ≡ y ∷ []) where
  marked : (y ∈ range 0 (length r)) × (is_mark r y ≡ true)
  marked = of-keep (is_mark r) (range 0 (length r)) (in_list (sym e) in_head)

  mark-below : y < length r
  mark-below =
      let h : (0 ≤ y) × (y < 0 + length r) = of_range 0 (length r) marked.0 in
      omega arith

  mark-only : (i : ℕ) → i < length r → is_mark r i ≡ eqb i y
  mark-only i h =
      same_tests (is_mark r i) (eqb i y)
      (λ t. eq-eqb i y (in-single (in_list e (in-keep (is_mark r) (in-range 0 (length r) (omega arith) (omega arith)) t))))
      (λ t. ap (is_mark r) (eqb-true i y t) ∙ marked.1)

  mark-row : ((i : ℕ) → i < length r → get_or r i 0 < 2) → r ≡ row (length r) y
  mark-row b =
      ext_get_or 0 r (row (length r) y) (sym (row-length (length r) y)) (λ i h.
      by-test (eqb i y)
      (λ t. eqb-true (get_or r i 0) 1 (mark-only i h ∙ t) ∙ sym (row_at (length r) y i h ∙ rw t))
      (λ t. let nothing : get_or r i 0 ≡ 0 = omega (arith, b i h, eqb-false (get_or r i 0) 1 (mark-only i h ∙ t)) in
      nothing ∙ sym (row_at (length r) y i h ∙ rw t)))

pub rows-length : (n : ℕ) (f : List ℕ) → length (gather (row n) f) ≡ length f * n
rows-length n f = pieces-length (row n) n f (λ y m. row-length n y)

row-bits : (n y : ℕ) → all_below 2 (row n y) ≡ true
row-bits n y =
    below_at 2 (row n y) (λ i h.
    rw (row_at n y i (omega (arith, row-length n y))) (choose-case (λ v. v < 2) (eqb i y) (λ t. omega arith) (λ t. omega arith)))

rows-below : (n : ℕ) (f : List ℕ) → all_below 2 (gather (row n) f) ≡ true
rows-below n [] = refl
rows-below n (y ∷ f) = below-append 2 (row n y) (gather (row n) f) (row-bits n y) (rows-below n f)

pub rows-bits : (n : ℕ) (f : List ℕ) → Bits (gather (row n) f)
rows-bits n f = bit_at (gather (row n) f) (rows-below n f)

-- the first k rows of n bits are those of f
abbrev pub RowsOf : ℕ → ℕ → List ℕ → List ℕ → Type 0
RowsOf n k bits f = (length f ≡ k) × (all_below n f ≡ true) × (take (k * n) bits ≡ gather (row n) f)

module _ (row_form : Refusal) where
  -- the rows of a table are read back
  pub rows_back : (n : ℕ) (f rest : List ℕ) → all_below n f ≡ true → read_rows row_form n (length f) (gather (row n) f ++ rest) ≡ done f
  unfolding read_rows
  rows_back n [] rest e = refl
  rows_back n (y ∷ f) rest e =
      let more = gather (row n) f ++ rest in
      rw (
        append_assoc (row n y) (gather (row n) f) rest,
        take_at (row n y) more n (row-length n y),
        drop_at (row n y) more n (row-length n y),
        row-mark n y (below-head n y f e),
        rows_back n f rest (below-tail n y f e),
      )

  only-mark-good : (l : List ℕ) → Good (λ y. l ≡ y ∷ []) (only_mark row_form l)
  only-mark-good [] = tt
  only-mark-good (y ∷ []) = refl
  only-mark-good (y ∷ z ∷ l) = tt

  -- rows that are read are those of what was read
  pub rows-good : (n k : ℕ) (bits : List ℕ) → Bits bits → k * n ≤ length bits → Good (RowsOf n k bits) (read_rows row_form n k bits)
  unfolding read_rows
  rows-good n zero bits b h = (refl, refl, rw (zero-mul n))
  rows-good n (suc k) bits b h =
      let r = take n bits in
      let l : length r ≡ n = length-take-le n bits (omega (arith, suc-mul k n)) in
      good-then (λ y. marks r ≡ y ∷ []) (RowsOf n (suc k) bits) (only_mark row_form (marks r)) (λ y. mapped (y ∷◌) (read_rows row_form n k (drop n bits)))
      (only-mark-good (marks r)) (λ y e.
      let first : r ≡ row n y = mark-row r y e (λ i g. rw (get_or-take n bits i 0 (omega arith)) (b i)) ∙ ap (λ m. row m y) l in
      good-mapped (RowsOf n k (drop n bits)) (RowsOf n (suc k) bits) (read_rows row_form n k (drop n bits)) (y ∷◌)
      (rows-good n k (drop n bits) (λ i. rw (get_or-drop n bits i 0) (b (n + i))) (omega (arith, suc-mul k n, length-drop n bits))) (λ f q.
      let count : suc k * n ≡ n + k * n = omega (arith, suc-mul k n) in (
        ap suc q.0,
        below-cons n y f (omega (arith, mark-below r y e, l)) q.1,
        ap (λ m. take m bits) count ∙ take-add n (k * n) bits ∙ ap₂ ◌++◌ first q.2,
      )))
