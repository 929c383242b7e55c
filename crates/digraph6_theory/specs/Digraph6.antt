-- digraph6 lines: document 02, paper 10; the description of its formats that nauty gives: N(n), R(x), "digraph6". These definitions move to patterns with the paper;
-- no promise cites them yet. Causes 14 and 15 come with the paper too, so the reading side is over two causes: line_form for a line out of the format, row_form for a
-- row without exactly one mark.
use Rattle.std.specs.Prelude.{Bool, ◌&&◌, ℕ, zero, suc, ◌+◌, ◌-◌, ◌*◌, ◌/◌, ◌%◌, leb, ltb, eqb, length, get_or, take, drop}
use Rattle.std.proofs.Math.Bool.{cond}
use mathlib.Core.List.{List, [], ◌∷◌, ◌++◌, map}
use Rattle.lists.specs.Select.{keep, each, gather, range}
use Rattle.patterns.specs.declared.Refusal.{Refusal}
use Rattle.patterns.specs.declared.Refusal.TheVariants.{Count}
use Rattle.patterns.specs.Reading.{Result, done, fault, and_then, mapped}

-- N(n) for n up to 258,047: one byte, or 126 and the 18 bits of n, six to a byte; 63 is added to each
abbrev pub size_field : ℕ → List ℕ
size_field n = cond (ltb n 63) ((63 + n) ∷ []) (126 ∷ (63 + n / 4096) ∷ (63 + n / 64 % 64) ∷ (63 + n % 64) ∷ [])

-- the row of a point that goes to y, and the adjacency matrix, row by row
abbrev pub row : ℕ → ℕ → List ℕ
row n y = map (λ j. cond (eqb j y) 1 0) (range 0 n)

abbrev pub matrix : List ℕ → List ℕ
matrix f = gather (row (length f)) f

-- the number of six bits, the first the highest; bits that are missing are 0
abbrev pub sextet : List ℕ → ℕ
sextet b = get_or b 0 0 * 32 + get_or b 1 0 * 16 + get_or b 2 0 * 8 + get_or b 3 0 * 4 + get_or b 4 0 * 2 + get_or b 5 0

-- R(x): the bits, six to a byte, k bytes in all
abbrev pub packed : ℕ → List ℕ → List ℕ
packed zero bits = []
packed (suc k) bits = (63 + sextet bits) ∷ packed k (drop 6 bits)

-- the bytes of the matrix of n points
abbrev pub body_length : ℕ → ℕ
body_length n = (n * n + 5) / 6

-- the line of a map: & [38], N(n), R of the matrix
unfoldable pub digraph6 : List ℕ → List ℕ
digraph6 f = 38 ∷ (size_field (length f) ++ packed (body_length (length f)) (matrix f))

abbrev pub in_format : ℕ → Bool
in_format x = leb 63 x && leb x 126

-- the number whose digits, six bits each, follow the number a
abbrev pub number : ℕ → List ℕ → ℕ
number a [] = a
number a (x ∷ l) = number (a * 64 + (x - 63)) l

-- the six bits of a byte
abbrev pub bits_of : ℕ → List ℕ
bits_of x =
    let v = x - 63 in
    (v / 32 % 2) ∷ (v / 16 % 2) ∷ (v / 8 % 2) ∷ (v / 4 % 2) ∷ (v / 2 % 2) ∷ (v % 2) ∷ []

-- the length, the bytes and the padding of a body for n points
abbrev pub is_line_body : ℕ → List ℕ → Bool
is_line_body n body = eqb (length body) (body_length n) && each in_format body && each (eqb 0) (drop (n * n) (gather bits_of body))

-- the places of the marks in a row
abbrev pub is_mark : List ℕ → ℕ → Bool
is_mark r j = eqb (get_or r j 0) 1

abbrev pub marks : List ℕ → List ℕ
marks r = keep (is_mark r) (range 0 (length r))

module _ (line_form : Refusal) where
  -- a number in the k bytes after the first j, and how many bytes the size takes
  unfoldable pub sized : ℕ → ℕ → List ℕ → Result (ℕ × ℕ)
  sized j k s =
      let digits = take k (drop j s) in
      cond (eqb (length digits) k && each in_format digits) (done (number 0 digits, j + k)) (fault line_form)

  -- 126 twice: six bytes follow; 126 once: three; else the number is in one byte
  unfoldable pub read_size : List ℕ → Result (ℕ × ℕ)
  unfolding sized
  read_size s =
      let long = cond (eqb (get_or s 1 0) 126) (sized 2 6 s) (sized 1 3 s) in
      cond (eqb (get_or s 0 0) 126) long (sized 0 1 s)

  -- the size has the shortest form
  abbrev pub shortest : ℕ × ℕ → Result (ℕ × ℕ)
  shortest p = cond (eqb p.1 (length (size_field p.0))) (done p) (fault line_form)

  -- a count above 200 is refused in every form, and only then a longer form than needed
  unfoldable pub read_count : List ℕ → Result (ℕ × ℕ)
  unfolding read_size
  read_count s = and_then (read_size s) (λ p. cond (ltb 200 p.0) (fault Count) (shortest p))

module _ (row_form : Refusal) where
  -- exactly one mark is a point's image
  abbrev pub only_mark : List ℕ → Result ℕ
  only_mark [] = fault row_form
  only_mark (y ∷ []) = done y
  only_mark (y ∷ z ∷ l) = fault row_form

  -- k rows of n bits
  unfoldable pub read_rows : ℕ → ℕ → List ℕ → Result (List ℕ)
  read_rows n zero bits = done []
  read_rows n (suc k) bits = and_then (only_mark (marks (take n bits))) (λ y. mapped (y ∷◌) (read_rows n k (drop n bits)))

module _ (line_form row_form : Refusal) where
  unfoldable pub read_line_body : ℕ → List ℕ → Result (List ℕ)
  unfolding read_rows
  read_line_body n body =
      let rows = read_rows row_form n n (gather bits_of body) in
      cond (is_line_body n body) rows (fault line_form)

  -- the map of a line
  unfoldable pub read_line : List ℕ → Result (List ℕ)
  unfolding read_count read_line_body
  read_line [] = fault line_form
  read_line (x ∷ s) =
      let more = and_then (read_count line_form s) (λ p. read_line_body p.0 (drop p.1 s)) in
      cond (eqb x 38) more (fault line_form)
