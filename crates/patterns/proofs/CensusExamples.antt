-- Entry "census of a map", computed: number of rows and distance differ, a length occurs twice, the greatest distance stands inside, and the cycles are met in another
-- order than that of their lengths.
use Rattle.std.specs.Prelude.{Ok, Err}
use mathlib.Core.Path.{◌≡◌, refl, ◌∙◌}
use mathlib.Core.List.{List, [], ◌∷◌, map}
use Prim.Native.Nat.{ℕ}
use lib.IntN.{pos, neg_ℤ}
use Rattle.lists.specs.Select.{range}
use Rattle.patterns.specs.declared.Refusal.{Refusal}
use Rattle.patterns.specs.declared.Refusal.TheVariants.{Image}
use Rattle.patterns.specs.Reading.{fault}
use Rattle.patterns.specs.Table.{image}
use Rattle.patterns.specs.Census.{Row, cycle_lengths, cycles_of, occurring, census_rows, steps_to_cycle, height}
use Rattle.patterns.specs.Replies.{number_of, length_is, refused, CensusAnswer, census_is, census_refused, census_answer, row_of}
use Rattle.patterns.specs.Entry.{checked_table, census_of, census_answered, CensusReplied, ColumnsFilled, RowsReplied, ColumnsReplied}
use Rattle.patterns.specs.SignedReplies.{CensusReported}

-- cycles of 2, 4, 1 and 1 points, and two points on the way to the third
abbrev table : List ℕ
table = 1 ∷ 0 ∷ 3 ∷ 4 ∷ 5 ∷ 2 ∷ 6 ∷ 7 ∷ 9 ∷ 6 ∷ []

abbrev row : ℕ → ℕ → Row
row l k = record { cycle_length = l; cycles = k }

abbrev rows : List Row
rows = row 1 2 ∷ row 2 1 ∷ row 4 1 ∷ []

pub lengths-and-steps :
    (cycle_lengths 10 (image table) ≡ 2 ∷ 4 ∷ 1 ∷ 1 ∷ [])
    × (map (cycles_of 10 (image table)) (range 0 6) ≡ 0 ∷ 2 ∷ 1 ∷ 0 ∷ 1 ∷ 0 ∷ [])
    × (occurring 10 (image table) ≡ 1 ∷ 2 ∷ 4 ∷ [])
    × (map (steps_to_cycle 10 (image table) 10) (range 0 10) ≡ 0 ∷ 0 ∷ 0 ∷ 0 ∷ 0 ∷ 0 ∷ 0 ∷ 0 ∷ 2 ∷ 1 ∷ [])
unfolding cycle_lengths cycles_of occurring steps_to_cycle
lengths-and-steps = (refl, refl, refl, refl)

pub greatest-distance : height 10 (image table) ≡ 2
unfolding height
greatest-distance = refl

-- by rising length, in whatever order the cycles are met; a cycle through all points, and no points
pub rows-by-length :
    (census_rows 10 (image table) ≡ rows)
    × (census_rows 6 (image (1 ∷ 2 ∷ 0 ∷ 4 ∷ 3 ∷ 5 ∷ [])) ≡ row 1 1 ∷ row 2 1 ∷ row 3 1 ∷ [])
    × (census_rows 6 (image (0 ∷ 2 ∷ 1 ∷ 4 ∷ 5 ∷ 3 ∷ [])) ≡ row 1 1 ∷ row 2 1 ∷ row 3 1 ∷ [])
    × (census_rows 3 (image (1 ∷ 2 ∷ 0 ∷ [])) ≡ row 3 1 ∷ [])
    × (census_rows 0 (image []) ≡ [])
unfolding census_rows
rows-by-length = (refl, refl, refl, refl, refl)

-- the reply: 3 rows, distance 2; a place behind the rows is kept
pub census-replied :
    CensusReplied table (row 7 7 ∷ row 7 7 ∷ row 7 7 ∷ row 8 9 ∷ []) (census_is 3 2) (row 1 2 ∷ row 2 1 ∷ row 4 1 ∷ row 8 9 ∷ [])
unfolding census_of height
census-replied = record { reply = refl; output = refl }

-- what each case of the reply says, and a struct of the lent list
pub census-told :
    (census_answer (Ok (record { rows = 3; height = 2 })) ≡ census_is 3 2)
    × (census_answer (Err Image) ≡ census_refused 2)
    × (row_of (record { cycle_length = 4; cycles = 1 }) ≡ row 4 1)
census-told = (refl, refl, refl)

-- three places suffice and two do not
pub census-room :
    (census_answered table (census_of table) (row 0 0 ∷ row 0 0 ∷ row 0 0 ∷ []) ≡ census_is 3 2)
    × (census_answered table (census_of table) (row 0 0 ∷ row 0 0 ∷ []) ≡ census_refused 8)
unfolding census_of height
census-room = (refl, refl)

-- in two columns the places behind the rows are kept
pub columns-replied :
    RowsReplied table (7 ∷ 7 ∷ 7 ∷ 8 ∷ 6 ∷ []) (7 ∷ 7 ∷ 7 ∷ 9 ∷ []) (census_is 3 2) (1 ∷ 2 ∷ 4 ∷ 8 ∷ 6 ∷ []) (2 ∷ 1 ∷ 1 ∷ 9 ∷ [])
    × ColumnsReplied table (7 ∷ 7 ∷ 7 ∷ []) (7 ∷ 7 ∷ 7 ∷ 8 ∷ 9 ∷ []) (length_is 3) (1 ∷ 2 ∷ 4 ∷ []) (2 ∷ 1 ∷ 1 ∷ 8 ∷ 9 ∷ [])
    × CensusReported table (7 ∷ 7 ∷ 7 ∷ []) (7 ∷ 7 ∷ 7 ∷ 8 ∷ 9 ∷ []) (pos 3) (1 ∷ 2 ∷ 4 ∷ []) (2 ∷ 1 ∷ 1 ∷ 8 ∷ 9 ∷ [])
unfolding census_of height
columns-replied = (
  record { reply = refl; output = record { lengths_are = refl; counts_are = refl } },
  record { reply = refl; output = record { lengths_are = refl; counts_are = refl } },
  record { number = refl; output = record { lengths_are = refl; counts_are = refl } },
)

-- and a row needs a place in both
abbrev short : List ℕ
short = 7 ∷ 8 ∷ []

abbrev long : List ℕ
long = 4 ∷ 5 ∷ 6 ∷ []

pub columns-room :
    (ColumnsFilled table short long short long × ColumnsFilled table long short long short)
    × (RowsReplied table short long (census_refused 8) short long × RowsReplied table long short (census_refused 8) long short)
    × (ColumnsReplied table short long (refused 8) short long × ColumnsReplied table long short (refused 8) long short)
    × (CensusReported table short long (neg_ℤ (pos 8)) short long × CensusReported table long short (neg_ℤ (pos 8)) long short)
unfolding census_of
columns-room =
    let first : ColumnsFilled table short long short long = record { lengths_are = refl; counts_are = refl } in
    let second : ColumnsFilled table long short long short = record { lengths_are = refl; counts_are = refl } in (
      (first, second),
      (record { reply = refl; output = first }, record { reply = refl; output = second }),
      (record { reply = refl; output = first }, record { reply = refl; output = second }),
      (record { number = refl; output = first }, record { number = refl; output = second }),
    )

-- both numbers are 0 for no points
pub census-of-no-points : CensusReplied [] [] (census_is 0 0) []
unfolding census_of height
census-of-no-points = record { reply = refl; output = refl }

-- a table that is refused has no other reply, and the list is kept
pub census-refused-with : (f : List ℕ) (c : Refusal) (before after : List Row) (a : CensusAnswer) → checked_table f ≡ fault c
    → CensusReplied f before a after → (a ≡ census_refused (number_of c)) × (after ≡ before)
unfolding census_of
census-refused-with f c before after a e h = (h.reply ∙ rw e, h.output ∙ rw e)

pub census-of-bad-table : (before after : List Row) (a : CensusAnswer) → CensusReplied (0 ∷ 2 ∷ []) before a after → (a ≡ census_refused 2) × (after ≡ before)
unfolding checked_table
census-of-bad-table before after a h = census-refused-with (0 ∷ 2 ∷ []) Image before after a refl h
