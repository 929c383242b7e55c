-- A line that is read as a table is the line of that table, so every graph has one line; and the table has at most 200 points.
use mathlib.Core.Path.{◌≡◌, ap, ap₂, sym, ◌∙◌}
use mathlib.Core.Bool.{true, ◌&&◌}
use mathlib.Core.List.{List, [], ◌∷◌, ◌++◌}
use Prim.Native.Nat.{ℕ, ◌*◌, ◌≤◌}
use native.Mathlib.Omega.{arith}
use lib.Dec.{eqb}
use lib.ListN.{length, take, drop, take-append-drop}
use borrow.Author.Tests.{eqb-true}
use Rattle.lists.specs.Select.{each, gather}
use Rattle.lists.proofs.Tests.{and-true, choose-case}
use Rattle.patterns.specs.declared.Refusal.{Refusal}
use Rattle.patterns.specs.Reading.{done}
use Rattle.patterns.specs.Table.{is_table}
use Rattle.form_theory.proofs.Results.{Good, good-then, good-weaken, good-done}
use Rattle.form_theory.proofs.Bounds.{all_below}
use Rattle.digraph6_theory.specs.Digraph6.{size_field, row, packed, body_length, digraph6, in_format, bits_of, is_line_body, read_count, read_rows, read_line_body, read_line}
use Rattle.digraph6_theory.proofs.Packing.{packed-padded, repacked, unpacked-bits, unpacked-length}
use Rattle.digraph6_theory.proofs.Rows.{RowsOf, rows-good}
use Rattle.digraph6_theory.proofs.Lines.{body-holds}
use Rattle.digraph6_theory.proofs.Sizes.{Counted, count-good}

-- a body in the format is the packing of its first n * n bits
module _ (n : ℕ) (body : List ℕ) (e : is_line_body n body ≡ true) where
  in_order : (eqb (length body) (body_length n) && each in_format body ≡ true) × (each (eqb 0) (drop (n * n) (gather bits_of body)) ≡ true)
  in_order = and-true (eqb (length body) (body_length n) && each in_format body) (each (eqb 0) (drop (n * n) (gather bits_of body))) e

  body-length : length body ≡ body_length n
  body-length = eqb-true (length body) (body_length n) (and-true (eqb (length body) (body_length n)) (each in_format body) in_order.0).0

  body-packed : body ≡ packed (body_length n) (take (n * n) (gather bits_of body))
  body-packed =
      let bits = gather bits_of body in
      sym (repacked body (and-true (eqb (length body) (body_length n)) (each in_format body) in_order.0).1)
      ∙ ap₂ packed body-length (sym (take-append-drop (n * n) bits))
      ∙ packed-padded (body_length n) (take (n * n) bits) (drop (n * n) bits) in_order.1

-- the body for n points is that of f
abbrev BodyOf : ℕ → List ℕ → List ℕ → Type 0
BodyOf n body f = (length f ≡ n) × (all_below n f ≡ true) × (body ≡ packed (body_length n) (gather (row n) f))

-- l is the line of f
abbrev LineOf : List ℕ → List ℕ → Type 0
LineOf l f = (length f ≤ 200) × (is_table f ≡ true) × (l ≡ digraph6 f)

module _ (line_form row_form : Refusal) where
  body-good : (n : ℕ) (body : List ℕ) → Good (BodyOf n body) (read_line_body line_form row_form n body)
  unfolding read_line_body
  body-good n body =
      let bits = gather bits_of body in
      choose-case (Good (BodyOf n body)) (is_line_body n body)
      (λ t. good-weaken (RowsOf n n bits) (BodyOf n body) (read_rows row_form n n bits)
      (rows-good row_form n n bits (unpacked-bits body) (omega (arith, unpacked-length body, body-length n body t, body-holds n))) (λ f q.
      (q.0, q.1, body-packed n body t ∙ ap (packed (body_length n)) q.2)))
      (λ t. tt)

  line-good : (l : List ℕ) → Good (LineOf l) (read_line line_form row_form l)
  unfolding read_line digraph6
  line-good [] = tt
  line-good (x ∷ s) =
      choose-case (Good (LineOf (x ∷ s))) (eqb x 38)
      (λ t. good-then (Counted s) (LineOf (x ∷ s)) (read_count line_form s)
      (λ p. read_line_body line_form row_form p.0 (drop p.1 s)) (count-good line_form s) (λ p q.
      good-weaken (BodyOf p.0 (drop p.1 s)) (LineOf (x ∷ s)) (read_line_body line_form row_form p.0 (drop p.1 s))
      (body-good p.0 (drop p.1 s)) (λ f b. (
        omega (arith, q.0, b.0),
        ap (λ n. all_below n f) b.0 ∙ b.1,
        ap₂ ◌∷◌ (eqb-true x 38 t) (q.1 ∙ ap (size_field p.0 ++◌) b.2 ∙ ap (λ n. size_field n ++ packed (body_length n) (gather (row n) f)) (sym b.0)),
      ))))
      (λ t. tt)

  -- only the line of a table is read as that table
  pub line-only : (l f : List ℕ) → read_line line_form row_form l ≡ done f → l ≡ digraph6 f
  line-only l f e = (good-done (LineOf l) (read_line line_form row_form l) f e (line-good l)).2

  -- what is read is a table of at most 200 points
  pub line-table : (l f : List ℕ) → read_line line_form row_form l ≡ done f → (length f ≤ 200) × (is_table f ≡ true)
  line-table l f e =
      let g = good-done (LineOf l) (read_line line_form row_form l) f e (line-good l) in
      (g.0, g.1)
