-- A line as it is read: &, the size, the bytes of the matrix, its rows.
use mathlib.Core.Path.{◌≡◌, refl, ap, sym, ◌∙◌, subst}
use mathlib.Core.Bool.{Bool, true, false}
use mathlib.Core.List.{List, [], ◌∷◌, ◌++◌}
use Prim.Native.Nat.{ℕ, ◌-◌, ◌*◌, ◌≤◌, ◌<◌}
use native.Mathlib.Omega.{arith}
use lib.Dec.{eqb}
use lib.ListN.{length, get_or, take, drop, length-drop}
use lib.Seq.{take_at, take_all}
use borrow.Author.Tests.{eq-eqb, ne_eqb}
use Rattle.lists.specs.Select.{each, gather}
use Rattle.lists.proofs.Tests.{clash}
use Rattle.patterns.specs.declared.Refusal.{Refusal}
use Rattle.patterns.specs.declared.Refusal.TheVariants.{LineForm, OutDegree}
use Rattle.std.specs.Prelude.{Result as Reply, Ok, Err}
use Rattle.patterns.specs.Reading.{Result, done, fault, and_then}
use Rattle.patterns.specs.Digraph6.{in_format, bits_of, body_length, is_line_body, read_count, read_matrix, read_line_body, read_line}
use Rattle.line_theory.proofs.Packing.{unpacked-length}
use Rattle.line_theory.proofs.Lines.{body-holds}
use Rattle.digraph6_reading.specs.LineResults.{FirstOne, matrix_result, LineRead}
use Rattle.digraph6_reading.proofs.FirstOnes.{all-zero}

-- the bytes of a matrix of n points: their number, each of them, and the padding
module _ (n : ℕ) (body : List ℕ) where
  module _ (h : length body ≡ body_length n) where
    pub body-padding : each in_format body ≡ true → {q : ℕ} → FirstOne (gather bits_of body) (n * n) q → eqb q (6 * length body) ≡ is_line_body n body
    body-padding e {q} w =
        let all : length (gather bits_of body) ≡ 6 * length body = omega (arith, unpacked-length body) in
        let clear = all-zero (omega (arith, body-holds n, all)) w in
        ap (eqb q) (sym all) ∙ clear ∙ rw (eq-eqb (length body) (body_length n) h, e)

-- a refusal
pub line_refused : {found : Result (List ℕ)} (c : Refusal) (table : List ℕ) → found ≡ fault c → LineRead found (Err c) table
line_refused c table e = record { result = sym e; room = λ n h. clash cc }

module _ (n : ℕ) (body : List ℕ) where
  pub body_refused : is_line_body n body ≡ false → read_line_body n body ≡ fault LineForm
  unfolding read_line_body
  body_refused e = rw e

  module _ (e : is_line_body n body ≡ true) where
    -- the rows were read into k places
    module _ {k : ℕ} (count : k ≡ n) (table : List ℕ) (passed : Bool) (m : matrix_result passed table ≡ read_matrix k k (gather bits_of body)) where
      rows_are : read_line_body n body ≡ matrix_result passed table
      unfolding read_line_body
      rows_are = rw e (sym (m ∙ ap (λ j. read_matrix j j (gather bits_of body)) count))

      pub rows-refused : passed ≡ false → read_line_body n body ≡ fault OutDegree
      rows-refused f = rows_are ∙ ap (λ b. matrix_result b table) f

      pub rows-read : passed ≡ true → length table ≡ k → n ≤ 200 → (rest : List ℕ) → LineRead (read_line_body n body) (Ok n) (table ++ rest)
      rows-read t same small rest =
          record {
            result = ap done (take_at table rest n (same ∙ count)) ∙ sym (rows_are ∙ ap (λ b. matrix_result b table) t);
            room = λ j h. let equal : n ≡ j = cc in omega arith;
          }

-- the bytes of s from place k on, as a part of s
abbrev part_from : ℕ → List ℕ → List ℕ
part_from k s = take (length s - k) (drop k s)

part-all : (k : ℕ) (s : List ℕ) → part_from k s ≡ drop k s
part-all k s = take_all (length s - k) (drop k s) (omega (arith, length-drop k s))

-- what follows the &
abbrev pub read_sized : List ℕ → Result (List ℕ)
read_sized s = and_then (read_count s) (λ p. read_line_body p.0 (drop p.1 s))

module _ (s : List ℕ) where
  pub size-refused : {c : Refusal} → fault c ≡ read_count s → read_sized s ≡ fault c
  size-refused e = rw (← e)

  pub size-read : {n used : ℕ} {r : Reply ℕ Refusal} {table : List ℕ} → done (n, used) ≡ read_count s → LineRead (read_line_body n (part_from used s)) r table
      → LineRead (read_sized s) r table
  size-read {n} {used} {r} {table} e w = rw (← e) (subst (λ body. LineRead (read_line_body n body) r table) (part-all used s) w)

-- the & itself
pub unmarked : (l : List ℕ) → (get_or l 0 0 ≡ 38 → ⊥) → read_line l ≡ fault LineForm
unfolding read_line
unmarked [] h = refl
unmarked (x ∷ s) h = rw (ne_eqb x 38 h)

pub marked-some : (l : List ℕ) (k : ℕ) → 0 < k → get_or l 0 0 ≡ k → 1 ≤ length l
marked-some [] k p h = absurd (omega arith)
marked-some (x ∷ s) k p h = omega arith

pub marked : (l : List ℕ) {r : Reply ℕ Refusal} {table : List ℕ} → get_or l 0 0 ≡ 38 → LineRead (read_sized (part_from 1 l)) r table → LineRead (read_line l) r table
unfolding read_line
marked [] h w = absurd (omega arith)
marked (x ∷ s) {r} {table} h w = rw (eq-eqb x 38 h) (subst (λ m. LineRead (read_sized m) r table) (part-all 1 (x ∷ s)) w)
