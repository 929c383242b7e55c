-- Lines and the two entries, computed: nauty's own examples, the lines of small maps in both directions, lines that are refused, the order of the checks, and 8.
use mathlib.Core.Path.{◌≡◌, refl}
use mathlib.Core.List.{List, [], ◌∷◌, ◌++◌, map}
use Prim.Native.Nat.{ℕ}
use lib.ListN.{length, take, replicate}
use Rattle.lists.specs.Select.{range}
use Rattle.patterns.specs.declared.Refusal.{Refusal}
use Rattle.patterns.specs.declared.Refusal.TheVariants.{Count}
use Rattle.patterns.specs.Reading.{done, fault}
use Rattle.patterns.specs.Replies.{length_is, refused, number_of}
use Rattle.patterns.specs.Entry.{gives, Replied}
use Rattle.digraph6_theory.specs.Digraph6.{size_field, packed, digraph6, read_size, read_line}
use Rattle.digraph6_theory.specs.LineEntries.{line_of_code, code_of_line}

-- nauty's description: N(30), N(12345), and R of the edges 0 to 2, 0 to 4, 3 to 1, 3 to 4 of five points
nauty-writes :
    (size_field 30 ≡ 93 ∷ [])
    × (size_field 12345 ≡ 126 ∷ 66 ∷ 63 ∷ 120 ∷ [])
    × (packed 5 (0 ∷ 0 ∷ 1 ∷ 0 ∷ 1 ∷ (replicate 10 0 ++ (0 ∷ 1 ∷ 0 ∷ 0 ∷ 1 ∷ replicate 5 0))) ≡ 73 ∷ 63 ∷ 65 ∷ 79 ∷ 63 ∷ [])
nauty-writes = (refl, refl, refl)

-- maps, their codes and their lines
abbrev maps : List (List ℕ)
maps = [] ∷ (0 ∷ []) ∷ (1 ∷ 0 ∷ []) ∷ (0 ∷ 0 ∷ []) ∷ (1 ∷ 2 ∷ 0 ∷ []) ∷ (0 ∷ 0 ∷ 1 ∷ []) ∷ []

abbrev codes : List (List ℕ)
codes =
    (0 ∷ 0 ∷ []) ∷ (1 ∷ 1 ∷ 1 ∷ 1 ∷ []) ∷ (2 ∷ 1 ∷ 2 ∷ 1 ∷ 1 ∷ []) ∷ (2 ∷ 1 ∷ 1 ∷ 2 ∷ 1 ∷ []) ∷ (3 ∷ 1 ∷ 3 ∷ 1 ∷ 1 ∷ 1 ∷ []) ∷ (3 ∷ 1 ∷ 1 ∷ 3 ∷ 2 ∷ 1 ∷ []) ∷ []

abbrev lines : List (List ℕ)
lines = (38 ∷ 63 ∷ []) ∷ (38 ∷ 64 ∷ 95 ∷ []) ∷ (38 ∷ 65 ∷ 87 ∷ []) ∷ (38 ∷ 65 ∷ 103 ∷ []) ∷ (38 ∷ 66 ∷ 80 ∷ 95 ∷ []) ∷ (38 ∷ 66 ∷ 99 ∷ 79 ∷ []) ∷ []

lines-of-maps : map digraph6 maps ≡ lines
unfolding digraph6
lines-of-maps = refl

lines-of-codes : map line_of_code codes ≡ map gives lines
unfolding line_of_code
lines-of-codes = refl

-- the size fields of 62, 63 and 200 points, and the lengths of their lines
sizes-of-lines :
    (take 2 (digraph6 (range 0 62)) ≡ 38 ∷ 125 ∷ [])
    × (take 5 (digraph6 (range 0 63)) ≡ 38 ∷ 126 ∷ 63 ∷ 63 ∷ 126 ∷ [])
    × (take 5 (digraph6 (range 0 200)) ≡ 38 ∷ 126 ∷ 63 ∷ 66 ∷ 71 ∷ [])
    × (map (λ n. length (digraph6 (range 0 n))) (62 ∷ 63 ∷ 200 ∷ []) ≡ 643 ∷ 667 ∷ 6672 ∷ [])
unfolding digraph6
sizes-of-lines = (refl, refl, refl, refl)

-- the code's own checks come before 8; what stands behind the line is kept
lines-replied :
    Replied (line_of_code (3 ∷ 1 ∷ 3 ∷ 1 ∷ 1 ∷ 1 ∷ [])) (replicate 5 9) (length_is 4) (38 ∷ 66 ∷ 80 ∷ 95 ∷ 9 ∷ [])
    × Replied (line_of_code (3 ∷ 1 ∷ 3 ∷ 1 ∷ 1 ∷ 1 ∷ [])) (replicate 3 9) (refused 8) (replicate 3 9)
    × Replied (line_of_code (3 ∷ 1 ∷ [])) (replicate 3 9) (refused 3) (replicate 3 9)
unfolding line_of_code
lines-replied = (record { reply = refl; output = refl }, record { reply = refl; output = refl }, record { reply = refl; output = refl })

module _ (line_form row_form : Refusal) where
  -- N(460175067)
  nauty-reads : read_size line_form (126 ∷ 126 ∷ 63 ∷ 90 ∷ 90 ∷ 90 ∷ 90 ∷ 90 ∷ []) ≡ done (460175067, 8)
  unfolding read_size
  nauty-reads = refl

  maps-of-lines : map (read_line line_form row_form) lines ≡ map done maps
  unfolding read_line
  maps-of-lines = refl

  codes-of-lines : map (code_of_line line_form row_form) lines ≡ map gives codes
  unfolding code_of_line
  codes-of-lines = refl

  -- a cycle 0 to 2 to 1 to 0 is read in, and taken out as 0 to 1 to 2 to 0
  renamed : code_of_line line_form row_form (digraph6 (2 ∷ 0 ∷ 1 ∷ [])) ≡ gives (3 ∷ 1 ∷ 3 ∷ 1 ∷ 1 ∷ 1 ∷ [])
  unfolding code_of_line digraph6
  renamed = refl

  -- no & in front: an empty line, the size alone, the sign of another format, and the header that nauty lets stand in front of a file
  not-begun :
      map (read_line line_form row_form)
      ([] ∷ (66 ∷ []) ∷ (58 ∷ 66 ∷ 80 ∷ 95 ∷ []) ∷ (62 ∷ 62 ∷ 100 ∷ 105 ∷ 103 ∷ 114 ∷ 97 ∷ 112 ∷ 104 ∷ 54 ∷ 60 ∷ 60 ∷ 38 ∷ 63 ∷ []) ∷ [])
      ≡ replicate 4 (fault line_form)
  unfolding read_line
  not-begun = refl

  -- a size that is cut short, in each form, or holds a byte outside the format
  size-refused :
      map (read_line line_form row_form)
      ((38 ∷ []) ∷ (38 ∷ 126 ∷ []) ∷ (38 ∷ 126 ∷ 63 ∷ 66 ∷ []) ∷ (38 ∷ 126 ∷ 126 ∷ 63 ∷ 63 ∷ 63 ∷ 63 ∷ 66 ∷ [])
      ∷ (38 ∷ 62 ∷ []) ∷ (38 ∷ 127 ∷ []) ∷ (38 ∷ 126 ∷ 63 ∷ 66 ∷ 127 ∷ []) ∷ (38 ∷ 126 ∷ 126 ∷ 63 ∷ 63 ∷ 63 ∷ 63 ∷ 66 ∷ 10 ∷ []) ∷ [])
      ≡ replicate 8 (fault line_form)
  unfolding read_line
  size-refused = refl

  -- a count of 201 in both longer forms, with nothing behind it, and the greatest
  count-refused :
      map (read_line line_form row_form)
      ((38 ∷ 126 ∷ 63 ∷ 66 ∷ 72 ∷ []) ∷ (38 ∷ 126 ∷ 126 ∷ 63 ∷ 63 ∷ 63 ∷ 63 ∷ 66 ∷ 72 ∷ []) ∷ (38 ∷ replicate 8 126) ∷ [])
      ≡ replicate 3 (fault Count)
  unfolding read_line
  count-refused = refl

  -- a size in a longer form than needed, of 3, of 62 and of 200
  form-refused :
      map (read_line line_form row_form)
      ((38 ∷ 126 ∷ 63 ∷ 63 ∷ 66 ∷ 80 ∷ 95 ∷ []) ∷ (38 ∷ 126 ∷ 126 ∷ 63 ∷ 63 ∷ 63 ∷ 63 ∷ 63 ∷ 66 ∷ 80 ∷ 95 ∷ []) ∷ (38 ∷ 126 ∷ 63 ∷ 63 ∷ 125 ∷ [])
      ∷ (38 ∷ 126 ∷ 126 ∷ 63 ∷ 63 ∷ 63 ∷ 63 ∷ 66 ∷ 71 ∷ []) ∷ [])
      ≡ replicate 4 (fault line_form)
  unfolding read_line
  form-refused = refl

  -- a body too short, too long, with a newline, with a byte outside the format, with padding set; also where a row is wrong too
  body_refused :
      map (read_line line_form row_form)
      ((38 ∷ 66 ∷ 80 ∷ []) ∷ (38 ∷ 66 ∷ 80 ∷ 95 ∷ 63 ∷ []) ∷ (38 ∷ 66 ∷ 80 ∷ 95 ∷ 10 ∷ []) ∷ (38 ∷ 66 ∷ 80 ∷ 127 ∷ []) ∷ (38 ∷ 66 ∷ 80 ∷ 62 ∷ [])
      ∷ (38 ∷ 64 ∷ 96 ∷ []) ∷ (38 ∷ 66 ∷ 80 ∷ 96 ∷ []) ∷ (38 ∷ 64 ∷ 64 ∷ []) ∷ (38 ∷ 66 ∷ 63 ∷ []) ∷ (38 ∷ 63 ∷ 63 ∷ []) ∷ [])
      ≡ replicate 10 (fault line_form)
  unfolding read_line
  body_refused = refl

  -- a row without a mark, all rows without, a row with two, and nauty's graph of four edges
  row-refused :
      map (read_line line_form row_form) ((38 ∷ 64 ∷ 63 ∷ []) ∷ (38 ∷ 65 ∷ 63 ∷ []) ∷ (38 ∷ 65 ∷ 119 ∷ []) ∷ (38 ∷ 68 ∷ 73 ∷ 63 ∷ 65 ∷ 79 ∷ 63 ∷ []) ∷ [])
      ≡ replicate 4 (fault row_form)
  unfolding read_line
  row-refused = refl

  -- 8 comes last
  codes-replied :
      Replied (code_of_line line_form row_form (38 ∷ 66 ∷ 80 ∷ 95 ∷ [])) (replicate 7 9) (length_is 6) (3 ∷ 1 ∷ 3 ∷ 1 ∷ 1 ∷ 1 ∷ 9 ∷ [])
      × Replied (code_of_line line_form row_form (38 ∷ 66 ∷ 80 ∷ 95 ∷ [])) (replicate 5 9) (refused 8) (replicate 5 9)
      × Replied (code_of_line line_form row_form (38 ∷ 65 ∷ 63 ∷ [])) [] (refused (number_of row_form)) []
  unfolding code_of_line
  codes-replied = (record { reply = refl; output = refl }, record { reply = refl; output = refl }, record { reply = refl; output = refl })
