-- What each public entry answers, and what it leaves in the lent buffers: document 01, "Refusing".
use Rattle.std.specs.Borrow.{Bor}
use Rattle.std.specs.Prelude.{◌≡◌, cond, List, [], ◌++◌, map, ℕ, ◌+◌, ◌-◌, leb, ltb, length, get_or, take, drop}
use Rattle.std.proofs.Math.Option.{Option, none, some}
use Rattle.lists.specs.Select.{first, next}
use Rattle.patterns.specs.declared.Refusal.{Refusal}
use Rattle.patterns.specs.declared.Refusal.TheVariants.{Count, Image, Room, Position}
use Rattle.patterns.specs.Component.{rotation_symmetry}
use Rattle.patterns.specs.System.{System, weight, codes, compare_system}
use Rattle.patterns.specs.Written.{written, stretch_of}
use Rattle.patterns.specs.Reading.{Result, done, fault, and_then, accepted}
use Rattle.patterns.specs.Table.{image, is_table, system_of_table}
use Rattle.patterns.specs.MapOf.{map_of}
use Rattle.patterns.specs.Isomorphism.{Isomorphism}
use Rattle.patterns.specs.Census.{Row, rows_of, census_rows, height}
use Rattle.patterns.specs.Replies.{number_of, Answer, length_is, last, first_of_list, lacking, refused, CensusAnswer, census_is, census_refused, PartAnswer, part_is, part_refused}

-- What an entry finds before it looks at the lent output: a result to write, "last", "first", "none", or a refusal.
pub data Outcome (A : Type 0) : Type 0 where
  gives : List A → Outcome A
  ends : Outcome A
  begins : Outcome A
  lacks : Outcome A
  fails : Refusal → Outcome A

-- the reply, given the output as it was lent: 8 only where there is a result to write
abbrev pub answered : {A : Type 0} → Outcome A → List A → Answer
answered (gives l) out = cond (leb (length l) (length out)) (length_is (length l)) (refused (number_of Room))
answered ends out = last
answered begins out = first_of_list
answered lacks out = lacking
answered (fails c) out = refused (number_of c)

-- the output afterwards: a result fills the first places, and the places after it keep what they held; without a result all is kept
abbrev pub filled : {A : Type 0} → Outcome A → List A → List A
filled (gives l) out = cond (leb (length l) (length out)) (l ++ drop (length l) out) out
filled ends out = out
filled begins out = out
filled lacks out = out
filled (fails c) out = out

-- an entry that found o replied and left the output so
pub record Replied {A : Type 0} (o : Outcome A) (before : List A) (answer : Answer) (after : List A) : Type 0 where
  pub reply : answer ≡ answered o before
  pub output : after ≡ filled o before

abbrev pub outcome : {A B : Type 0} → Result A → (A → Outcome B) → Outcome B
outcome (done x) f = f x
outcome (fault c) f = fails c

-- the reply of an entry that writes nothing
abbrev pub answer : {A : Type 0} → Result A → (A → Answer) → Answer
answer (done x) f = f x
answer (fault c) f = refused (number_of c)

-- Entry "accept": n, or the refusal of a written code
unfoldable pub accept_of : List ℕ → Answer
unfolding accepted
accept_of b = answer (accepted b) (λ S. length_is (weight S))

-- a code of the list to write, or the end of the list
abbrev pub listed : Option System → Outcome ℕ
listed (some S) = gives (written S)
listed none = ends

-- Entry "first code for a count": the first of the list
unfoldable pub first_of : ℕ → Outcome ℕ
unfolding codes written
first_of n =
    let code = listed (first (codes n)) in
    cond (ltb 200 n) (fails Count) code

-- Entry "successor": the code that follows in the list
unfoldable pub successor_of : List ℕ → Outcome ℕ
unfolding accepted codes compare_system written
successor_of b = outcome (accepted b) (λ S. listed (next compare_system S (codes (weight S))))

-- a table of at most 200 points, each byte a point: 1, then 2
unfoldable pub checked_table : List ℕ → Result (List ℕ)
checked_table f = cond (ltb 200 (length f)) (fault Count) (cond (is_table f) (done f) (fault Image))

-- Entry "code of a map"
unfoldable pub code_of_map : List ℕ → Outcome ℕ
unfolding checked_table system_of_table written
code_of_map f = outcome (checked_table f) (λ f. gives (written (system_of_table f)))

-- Entry "map of a code"
unfoldable pub map_of_code : List ℕ → Outcome ℕ
unfolding accepted map_of
map_of_code b = outcome (accepted b) (λ S. gives (map_of S))

-- Entry "renaming between two maps": which isomorphism is written is left open, and "none" is answered exactly where there is none.
pub data IsomorphismFound (f g : List ℕ) : Outcome ℕ → Type 0 where
  first_refused : {c : Refusal} → checked_table f ≡ fault c → IsomorphismFound f g (fails c)
  second_refused : {c : Refusal} → checked_table f ≡ done f → checked_table g ≡ fault c → IsomorphismFound f g (fails c)
  found : {r : List ℕ} → checked_table f ≡ done f → checked_table g ≡ done g → length f ≡ length g → Isomorphism (length f) f g r → IsomorphismFound f g (gives r)
  lengths_differ : checked_table f ≡ done f → checked_table g ≡ done g → (length f ≡ length g → ⊥) → IsomorphismFound f g lacks
  not_found : checked_table f ≡ done f → checked_table g ≡ done g → length f ≡ length g → ((r : List ℕ) → Isomorphism (length f) f g r → ⊥) → IsomorphismFound f g lacks

-- the reply of that entry
pub record IsomorphismReplied (f g before : List ℕ) (answer : Answer) (after : List ℕ) : Type 0 where
  pub found : Outcome ℕ
  pub is_found : IsomorphismFound f g found
  pub replied : Replied found before answer after

-- Entry "census of a map": its rows, or the refusal of the table
unfoldable pub census_of : List ℕ → Result (List Row)
unfolding checked_table census_rows
census_of f = and_then (checked_table f) (λ f. done (census_rows (length f) (image f)))

-- what is found of it to write
abbrev pub rows_found : List ℕ → Outcome Row
rows_found f = outcome (census_of f) gives

abbrev pub census_answered : List ℕ → Result (List Row) → List Row → CensusAnswer
census_answered f (done rows) out =
    let whole = census_is (length rows) (height (length f) (image f)) in
    cond (leb (length rows) (length out)) whole (census_refused (number_of Room))
census_answered f (fault c) out = census_refused (number_of c)

-- the reply of that entry, and what it leaves in the lent list
pub record CensusReplied (f : List ℕ) (before : List Row) (answer : CensusAnswer) (after : List Row) : Type 0 where
  pub reply : answer ≡ census_answered f (census_of f) before
  pub output : after ≡ filled (rows_found f) before

-- The rows in two lent lists of numbers, the cycle lengths in one and the numbers of cycles beside them in the other: as many places as the shorter has, and what
-- stands behind them in the longer is kept. What one list holds afterwards, given the places and what of a row it takes:
abbrev pub column_filled : List ℕ → List Row → (Row → ℕ) → List ℕ → List ℕ
column_filled f places part before = map part (filled (rows_found f) places) ++ drop (length places) before

-- and both
pub record ColumnsFilled (f lengths counts lengths' counts' : List ℕ) : Type 0 where
  pub lengths_are : lengths' ≡ column_filled f (rows_of lengths counts) (λ r. r.cycle_length) lengths
  pub counts_are : counts' ≡ column_filled f (rows_of lengths counts) (λ r. r.cycles) counts

-- the reply of the census in two columns
pub record RowsReplied (f lengths counts : List ℕ) (answer : CensusAnswer) (lengths' counts' : List ℕ) : Type 0 where
  pub reply : answer ≡ census_answered f (census_of f) (rows_of lengths counts)
  pub output : ColumnsFilled f lengths counts lengths' counts'

-- the reply where the rows are asked for alone: their number
pub record ColumnsReplied (f lengths counts : List ℕ) (answer : Answer) (lengths' counts' : List ℕ) : Type 0 where
  pub reply : answer ≡ answered (rows_found f) (rows_of lengths counts)
  pub output : ColumnsFilled f lengths counts lengths' counts'

-- of a census, the greatest distance of a point from its cycle alone, or the refusal of the table
abbrev pub height_of : List ℕ → Answer
height_of f = answer (checked_table f) (λ f. length_is (height (length f) (image f)))

-- The part of a code that shows a component: where its bytes begin and end, and how many of the component's rotations equal it [document 02, paper 6].
pub record Part : Type 0 where
  pub start : ℕ
  pub end : ℕ
  pub turns : ℕ

-- that of the component at position i in the code of S
unfoldable pub part_in : System → ℕ → Part
unfolding stretch_of rotation_symmetry
part_in S i = record { start = (stretch_of S i).0; end = (stretch_of S i).1; turns = rotation_symmetry (get_or S i []) }

abbrev pub component_in : System → ℕ → Result Part
component_in S i = cond (ltb i (length S)) (done (part_in S i)) (fault Position)

-- Entry "component reader": the same for a written code
unfoldable pub component_of : List ℕ → ℕ → Result Part
unfolding accepted part_in
component_of b i = and_then (accepted b) (λ S. component_in S i)

-- the reply of that entry
abbrev pub part_answered : Result Part → PartAnswer
part_answered (done part) = part_is part.start part.end part.turns
part_answered (fault c) = part_refused (number_of c)

-- part is the part of code from start to end: those bytes, and in the very place in memory where they stand in code
pub record PartOf (code : Bor (List ℕ)) (start end : ℕ) (part : Bor (List ℕ)) : Type 0 where
  pub bytes_are : part.now ≡ take (end - start) (drop start code.now)
  pub block : part.ref_ptr.0 ≡ code.ref_ptr.0
  pub place : part.ref_ptr.1 ≡ code.ref_ptr.1 + start

-- what that entry shows: the component's part of the code, and where there is a refusal a part of no bytes
abbrev pub Shown : Bor (List ℕ) → Result Part → Bor (List ℕ) → Type 0
Shown code (done place) part = PartOf code place.start place.end part
Shown code (fault c) part = PartOf code 0 0 part
