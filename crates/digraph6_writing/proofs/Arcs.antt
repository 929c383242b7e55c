-- Writing the matrix of a map, the arc of one point after the other.
use mathlib.Core.Path.{◌≡◌, refl, ap, sym, ◌∙◌}
use mathlib.Core.Bool.{true}
use mathlib.Core.List.{List, [], ◌∷◌, ◌++◌, append-nil}
use Prim.Native.Nat.{ℕ, zero, suc, ◌+◌, ◌*◌, ◌/◌, ◌%◌, ◌≤◌, ◌<◌}
use native.Mathlib.Nat.{add-zero, zero-add}
use native.Mathlib.Numerals.{add-one}
use native.Mathlib.Omega.{arith}
use lib.Dec.{ltb, eqb-suc-suc}
use lib.ListN.{length, get_or, take, set, replicate, get_or-eq_default}
use lib.Seq.{take-suc, length-take-le}
use borrow.Author.Tests.{ne_eqb, ltb-true, ltb-false}
use Rattle.lists.specs.Select.{each, gather}
use Rattle.lists.proofs.Tests.{by-test, each_member}
use Rattle.lists.proofs.Members.{gather_append}
use Rattle.lists.proofs.Places.{in-index}
use Rattle.lists.proofs.EqualPieces.{pair-below}
use Rattle.patterns.specs.Table.{is_table, image}
use Rattle.patterns.specs.Digraph6.{matrix_row, packed, body_length, in_format}
use Rattle.map_theory.proofs.Isomorphisms.{table_below}
use Rattle.line_theory.proofs.Packing.{packed-length, packed-format, in-format}
use Rattle.line_theory.proofs.Rows.{row-length, row_at, rows-length, rows-bits}
use Rattle.line_theory.proofs.Lines.{body-holds}
use Rattle.digraph6_writing.proofs.OneBit.{OneMore, with_bit, weight-small, packed_more}

-- a row is one bit
row_more : (n y : ℕ) → y < n → OneMore [] (matrix_row n y) y
row_more n y h q =
    by-test (ltb q n)
    (λ t. row_at n y q (ltb-true q n t) ∙ sym (zero-add _))
    (λ t. let out : n ≤ q = ltb-false q n t in
    get_or-eq_default (matrix_row n y) 0 {n = q} (omega (arith, row-length n y)) ∙ rw (ne_eqb q y (λ e. omega arith)))

-- one bit behind others
append-more : (a r : List ℕ) (p : ℕ) → OneMore [] r p → OneMore a (a ++ r) (length a + p)
append-more [] r p m q = rw (zero-add p) (m q)
append-more (x ∷ a) r p m zero = rw (ne_eqb 0 (suc (length a) + p) (λ e. omega arith)) (sym (add-zero x))
append-more (x ∷ a) r p m (suc q) =
    let e : suc (length a) + p ≡ suc (length a + p) = omega arith in
    rw (e, eqb-suc-suc q (length a + p)) (append-more a r p m q)

-- the row of one point more
rows_more : (n y : ℕ) (l : List ℕ) → y < n → OneMore (gather (matrix_row n) l) (gather (matrix_row n) (l ++ (y ∷ []))) (length l * n + y)
rows_more n y l h =
    rw (gather_append (matrix_row n) l (y ∷ []), append-nil (matrix_row n y), ← rows-length n l)
    (append-more (gather (matrix_row n) l) (matrix_row n y) y (row_more n y h))

-- no arcs
packed_none : (k : ℕ) → packed k [] ≡ replicate k 63
packed_none zero = refl
packed_none (suc k) = ap (63 ∷◌) (packed_none k)

-- the rows of the first i points of f
abbrev rows : List ℕ → ℕ → List ℕ
rows f i = gather (matrix_row (length f)) (take i f)

-- the place of the arc of point i
abbrev arc : List ℕ → ℕ → ℕ
arc f i = i * length f + image f i

-- the arcs of the first i points stand in the body
pub record Writing (f body : List ℕ) (i : ℕ) : Type 0 where
  pub within : i ≤ length f
  pub output : body ≡ packed (body_length (length f)) (rows f i)

pub writing_start : (f before : List ℕ) {body : List ℕ} → length before ≡ body_length (length f) → body ≡ replicate (length before) 63 → Writing f body 0
writing_start f before room e =
    record { within = omega arith; output = e ∙ ap (λ k. replicate k 63) room ∙ sym (packed_none (body_length (length f))) }

module _ {f body : List ℕ} {i : ℕ} (w : Writing f body i) where
  pub writing-length : length body ≡ body_length (length f)
  writing-length = ap length w.output ∙ packed-length (body_length (length f)) (rows f i)

  -- the bits of all pairs of points stand in the body
  pub bit-within : {x y : ℕ} → x < length f → y < length f → x * length f + y < length body * 6
  bit-within h k = omega (arith, pair-below h k, writing-length, body-holds (length f))

  -- and so does that of the arc of point i
  pub arc-within : is_table f ≡ true → i < length f → arc f i < length body * 6
  arc-within t h = bit-within h (table_below (length f) f refl t i h)

  -- the body's bytes are in the format, and have room for one bit more
  pub byte_small : (p : ℕ) → p < length body * 6 → with_bit body p < 256
  byte_small p h =
      let format : each in_format body ≡ true = rw w.output (packed-format (body_length (length f)) (rows f i) (rows-bits (length f) (take i f))) in
      let byte = in-format (get_or body (p / 6) 0) (each_member in_format format (in-index body (p / 6) 0 (omega arith))) in
      omega (arith, byte.1, weight-small (p % 6))

  -- one arc more
  pub writing-next : is_table f ≡ true → i < length f → Writing f (set body (arc f i / 6) (with_bit body (arc f i))) (i + 1)
  writing-next t h =
      let point : image f i < length f = table_below (length f) f refl t i h in
      let more : OneMore (rows f i) (rows f (i + 1)) (arc f i) =
      rw (add-one i, take-suc f i 0 h) (rw (length-take-le i f w.within) at (rows_more (length f) (image f i) (take i f) point)) in
      record {
        within = omega arith;
        output =
            rw w.output
            (sym (packed_more (rows f i) (rows f (i + 1)) (arc f i) more (body_length (length f)) (omega (arith, bit-within h point, writing-length))));
      }
