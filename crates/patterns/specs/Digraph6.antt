-- Entries "digraph6 in and out": document 02, paper 10. The format is nauty's, as its description of file formats defines it: N(n), R(x), and "digraph6". A line here
-- is one graph in that format, without header and newline.
use Rattle.std.specs.Prelude.{Bool, cond, ◌&&◌, List, [], ◌∷◌, ◌++◌, map, ℕ, zero, suc, ◌+◌, ◌-◌, ◌*◌, ◌/◌, ◌%◌, leb, ltb, eqb, length, get_or, take, drop}
use Rattle.lists.specs.Select.{keep, each, gather, range}
use Rattle.patterns.specs.declared.Refusal.TheVariants.{Count, LineForm, OutDegree}
use Rattle.patterns.specs.Written.{written}
use Rattle.patterns.specs.Reading.{Result, done, fault, and_then, mapped, accepted}
use Rattle.patterns.specs.Table.{system_of_table}
use Rattle.patterns.specs.MapOf.{map_of}
use Rattle.patterns.specs.Entry.{Outcome, gives, outcome}

-- N(n) for n up to 258,047: one byte, or 126 and the 18 bits of n, six to a byte; 63 is added to each
abbrev pub size_field : ℕ → List ℕ
size_field n = cond (ltb n 63) ((63 + n) ∷ []) (126 ∷ (63 + n / 4096) ∷ (63 + n / 64 % 64) ∷ (63 + n % 64) ∷ [])

-- the row of a point that goes to y in the adjacency matrix, and the matrix of a map, row by row
abbrev pub matrix_row : ℕ → ℕ → List ℕ
matrix_row n y = map (λ j. cond (eqb j y) 1 0) (range 0 n)

abbrev pub matrix : List ℕ → List ℕ
matrix f = gather (matrix_row (length f)) f

-- the number of six bits, the first the highest; bits that are missing are 0
abbrev pub sextet : List ℕ → ℕ
sextet b = get_or b 0 0 * 32 + get_or b 1 0 * 16 + get_or b 2 0 * 8 + get_or b 3 0 * 4 + get_or b 4 0 * 2 + get_or b 5 0

-- R(x): the bits, six to a byte, k bytes in all
abbrev pub packed : ℕ → List ℕ → List ℕ
packed zero bits = []
packed (suc k) bits = (63 + sextet bits) ∷ packed k (drop 6 bits)

-- the bytes of the matrix of n points
abbrev pub body_length : ℕ → ℕ
body_length n = (n * n + 5) / 6

-- the line of a map: & [38], N(n), R of the matrix
unfoldable pub digraph6 : List ℕ → List ℕ
digraph6 f = 38 ∷ (size_field (length f) ++ packed (body_length (length f)) (matrix f))

-- Reading. A byte of the format:
abbrev pub in_format : ℕ → Bool
in_format x = leb 63 x && leb x 126

-- the number whose digits, six bits each, follow the number a
abbrev pub size_value : ℕ → List ℕ → ℕ
size_value a [] = a
size_value a (x ∷ l) = size_value (a * 64 + (x - 63)) l

-- a number in the k bytes after the first j, and how many bytes the size takes; "a size that is cut short or holds a byte outside the format is 14"
unfoldable pub sized : ℕ → ℕ → List ℕ → Result (ℕ × ℕ)
sized j k s =
    let digits = take k (drop j s) in
    cond (eqb (length digits) k && each in_format digits) (done (size_value 0 digits, j + k)) (fault LineForm)

-- 126 twice: six bytes follow; 126 once: three; else the number is in one byte
unfoldable pub read_size : List ℕ → Result (ℕ × ℕ)
unfolding sized
read_size s =
    let long = cond (eqb (get_or s 1 0) 126) (sized 2 6 s) (sized 1 3 s) in
    cond (eqb (get_or s 0 0) 126) long (sized 0 1 s)

-- "a size in a longer form than needed is 14"
abbrev pub shortest : ℕ × ℕ → Result (ℕ × ℕ)
shortest p = cond (eqb p.1 (length (size_field p.0))) (done p) (fault LineForm)

-- "a count above 200 in any size form is 1", before that
unfoldable pub read_count : List ℕ → Result (ℕ × ℕ)
unfolding read_size
read_count s = and_then (read_size s) (λ p. cond (ltb 200 p.0) (fault Count) (shortest p))

-- the six bits of a byte
abbrev pub bits_of : ℕ → List ℕ
bits_of x =
    let v = x - 63 in
    (v / 32 % 2) ∷ (v / 16 % 2) ∷ (v / 8 % 2) ∷ (v / 4 % 2) ∷ (v / 2 % 2) ∷ (v % 2) ∷ []

-- the bytes of the matrix: "a wrong length, a byte outside the format or a padding bit that is set is 14"
abbrev pub is_line_body : ℕ → List ℕ → Bool
is_line_body n body = eqb (length body) (body_length n) && each in_format body && each (eqb 0) (drop (n * n) (gather bits_of body))

-- the points that a row's point has an arc to, "marks" in the paper
abbrev pub is_neighbour : List ℕ → ℕ → Bool
is_neighbour row j = eqb (get_or row j 0) 1

abbrev pub neighbours : List ℕ → List ℕ
neighbours row = keep (is_neighbour row) (range 0 (length row))

-- the one that is a point's image: "a row without exactly one mark" is 15
abbrev pub only_neighbour : List ℕ → Result ℕ
only_neighbour [] = fault OutDegree
only_neighbour (y ∷ []) = done y
only_neighbour (y ∷ z ∷ l) = fault OutDegree

-- k rows of n bits
unfoldable pub read_matrix : ℕ → ℕ → List ℕ → Result (List ℕ)
read_matrix n zero bits = done []
read_matrix n (suc k) bits = and_then (only_neighbour (neighbours (take n bits))) (λ y. mapped (y ∷◌) (read_matrix n k (drop n bits)))

-- "only then" the rows
unfoldable pub read_line_body : ℕ → List ℕ → Result (List ℕ)
unfolding read_matrix
read_line_body n body =
    let rows = read_matrix n n (gather bits_of body) in
    cond (is_line_body n body) rows (fault LineForm)

-- the map of a line: "a line that is empty or lacks the leading & is 14", then the size, then the rest
unfoldable pub read_line : List ℕ → Result (List ℕ)
unfolding read_count read_line_body
read_line [] = fault LineForm
read_line (x ∷ s) =
    let more = and_then (read_count s) (λ p. read_line_body p.0 (drop p.1 s)) in
    cond (eqb x 38) more (fault LineForm)

-- Entry "digraph6 out": the line of the code's map
unfoldable pub digraph6_of_code : List ℕ → Outcome ℕ
unfolding accepted map_of digraph6
digraph6_of_code b = outcome (accepted b) (λ S. gives (digraph6 (map_of S)))

-- Entry "digraph6 in": the code of the line's map
unfoldable pub code_of_digraph6 : List ℕ → Outcome ℕ
unfolding read_line system_of_table written
code_of_digraph6 l = outcome (read_line l) (λ f. gives (written (system_of_table f)))
