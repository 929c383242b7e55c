-- The line of a table of at most 200 points is read back as the table.
use mathlib.Core.Path.{◌≡◌, refl, ap, ◌∙◌}
use mathlib.Core.Bool.{true}
use mathlib.Core.List.{List, ◌++◌}
use Prim.Native.Nat.{ℕ, ◌-◌, ◌*◌, ◌≤◌}
use native.Mathlib.Omega.{arith}
use lib.Dec.{eqb}
use lib.ListN.{length, drop, replicate}
use lib.Seq.{drop_at}
use borrow.Author.Tests.{eq-eqb}
use Rattle.lists.specs.Select.{each, gather}
use Rattle.lists.proofs.Tests.{true-and, cond-true}
use Rattle.patterns.specs.declared.Refusal.{Refusal}
use Rattle.patterns.specs.Reading.{done, fault}
use Rattle.patterns.specs.Table.{is_table}
use Rattle.digraph6_theory.specs.Digraph6.{size_field, matrix, packed, body_length, digraph6, bits_of, is_line_body, read_rows, read_line_body, read_line}
use Rattle.digraph6_theory.proofs.Packing.{packed-length, packed-format, zeros, unpacked}
use Rattle.digraph6_theory.proofs.Rows.{rows-length, rows-bits, rows_back}
use Rattle.digraph6_theory.proofs.Sizes.{count-back}

-- the bytes of a body hold the matrix
pub body-holds : (n : ℕ) → n * n ≤ body_length n * 6
body-holds n = omega arith

-- the body of a map's line, and the padding of its bits
abbrev body_of : List ℕ → List ℕ
body_of f = packed (body_length (length f)) (matrix f)

abbrev padding : List ℕ → ℕ
padding f = body_length (length f) * 6 - length (matrix f)

body-bits : (f : List ℕ) → gather bits_of (body_of f) ≡ matrix f ++ replicate (padding f) 0
body-bits f =
    unpacked (body_length (length f)) (matrix f) (rows-bits (length f) f) (omega (arith, rows-length (length f) f, body-holds (length f)))

is_body : (f : List ℕ) → is_line_body (length f) (body_of f) ≡ true
is_body f =
    let n = length f in
    true-and
    (true-and (eq-eqb (length (body_of f)) (body_length n) (packed-length (body_length n) (matrix f))) (packed-format (body_length n) (matrix f) (rows-bits n f)))
    (ap (λ bits. each (eqb 0) (drop (n * n) bits)) (body-bits f)
    ∙ ap (each (eqb 0)) (drop_at (matrix f) (replicate (padding f) 0) (n * n) (rows-length n f))
    ∙ zeros (padding f))

module _ (line_form row_form : Refusal) where
  body_back : (f : List ℕ) → is_table f ≡ true → read_line_body line_form row_form (length f) (body_of f) ≡ done f
  unfolding read_line_body
  body_back f t =
      let n = length f in
      cond-true (read_rows row_form n n (gather bits_of (body_of f))) (fault line_form) (is_body f)
      ∙ ap (read_rows row_form n n) (body-bits f)
      ∙ rows_back row_form n f (replicate (padding f) 0) t

  pub line-back : (f : List ℕ) → is_table f ≡ true → length f ≤ 200 → read_line line_form row_form (digraph6 f) ≡ done f
  unfolding read_line digraph6
  line-back f t h =
      let size = size_field (length f) in
      rw (count-back line_form (length f) (body_of f) h, drop_at size (body_of f) (length size) refl) (body_back f t)
