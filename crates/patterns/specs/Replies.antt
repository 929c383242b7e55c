-- The replies of the public entries in document 01's words: document 01, "Refusing". Each running reply is a type of src/reply.rt; a definition gives every
-- case of it this paper's number and values, and the promises use that definition.
use Rattle.std.specs.Prelude.{ℕ, Option, Some, None, Result, Ok, Err}
use Rattle.patterns.specs.Census.{Row}
use Rattle.patterns.specs.declared.Refusal.{Refusal}
use Rattle.patterns.specs.declared.Refusal.TheVariants.{Count, Image, Truncated, NumberForm, Sizes, NotCanonical, Trailing, Room, Position, Wanted, TooLarge, Uncounted, TooManyPoints, LineForm, OutDegree}
use Rattle.patterns.specs.declared.reply.Page.{Page}
use Rattle.patterns.specs.declared.reply.Census.{Census}
use Rattle.patterns.specs.declared.reply.Row.{Row as RowStruct}
use Rattle.patterns.specs.declared.reply.Stretch.{Stretch}
use Rattle.patterns.specs.declared.reply.GreatestPeriod.{GreatestPeriod}

-- the table of causes; from 10 on document 02
abbrev pub number_of : Refusal → ℕ
number_of Count = 1
number_of Image = 2
number_of Truncated = 3
number_of NumberForm = 4
number_of Sizes = 5
number_of NotCanonical = 6
number_of Trailing = 7
number_of Room = 8
number_of Position = 9
number_of Wanted = 10
number_of TooLarge = 11
number_of Uncounted = 12
number_of TooManyPoints = 13
number_of LineForm = 14
number_of OutDegree = 15

-- A reply in document 01's words: a length (or n, or another number), "last", "none", or a refusal with its number; and "first" of document 02, paper 3.
pub data Answer : Type 0 where
  length_is : ℕ → Answer
  last : Answer
  first_of_list : Answer
  lacking : Answer
  refused : ℕ → Answer

-- the number of entries and the greatest distance of a point from its cycle, or a refusal with its number
pub data CensusAnswer : Type 0 where
  census_is : ℕ → ℕ → CensusAnswer
  census_refused : ℕ → CensusAnswer

-- how many codes a page has and how many bytes they take together, or a refusal with its number
pub data PageAnswer : Type 0 where
  page_is : ℕ → ℕ → PageAnswer
  page_refused : ℕ → PageAnswer

-- where the component's bytes begin and end in the code and how many of its rotations equal it, or a refusal with its number
pub data PartAnswer : Type 0 where
  part_is : ℕ → ℕ → ℕ → PartAnswer
  part_refused : ℕ → PartAnswer

-- how long the code is that was written and what its period is, or a refusal with its number
pub data GreatestAnswer : Type 0 where
  greatest_is : ℕ → ℕ → GreatestAnswer
  greatest_refused : ℕ → GreatestAnswer

-- what each case of a reply says
abbrev pub answer_of : Result ℕ Refusal → Answer
answer_of (Ok n) = length_is n
answer_of (Err c) = refused (number_of c)

abbrev pub successor_answer : Result (Option ℕ) Refusal → Answer
successor_answer (Ok (Some n)) = length_is n
successor_answer (Ok None) = last
successor_answer (Err c) = refused (number_of c)

abbrev pub predecessor_answer : Result (Option ℕ) Refusal → Answer
predecessor_answer (Ok (Some n)) = length_is n
predecessor_answer (Ok None) = first_of_list
predecessor_answer (Err c) = refused (number_of c)

abbrev pub page_answer : Result Page Refusal → PageAnswer
page_answer (Ok page) = page_is page.codes page.bytes
page_answer (Err c) = page_refused (number_of c)

abbrev pub isomorphism_answer : Result (Option ℕ) Refusal → Answer
isomorphism_answer (Ok (Some n)) = length_is n
isomorphism_answer (Ok None) = lacking
isomorphism_answer (Err c) = refused (number_of c)

abbrev pub census_answer : Result Census Refusal → CensusAnswer
census_answer (Ok census) = census_is census.rows census.height
census_answer (Err c) = census_refused (number_of c)

abbrev pub part_answer : Result Stretch Refusal → PartAnswer
part_answer (Ok part) = part_is part.start part.end part.turns
part_answer (Err c) = part_refused (number_of c)

abbrev pub quantity_answer : Result ℕ Refusal → Answer
quantity_answer (Ok n) = length_is n
quantity_answer (Err c) = refused (number_of c)

abbrev pub greatest_answer : Result GreatestPeriod Refusal → GreatestAnswer
greatest_answer (Ok code) = greatest_is code.length code.period
greatest_answer (Err c) = greatest_refused (number_of c)

-- what a struct of the lent list of rows says
abbrev pub row_of : RowStruct → Row
row_of e = record { cycle_length = e.cycle_length; cycles = e.cycles }
