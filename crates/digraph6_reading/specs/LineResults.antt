-- What the steps of reading a line answer, as results, and what they ask for.
use Rattle.std.specs.Prelude.{◌≡◌, Bool, true, cond, List, ℕ, ◌*◌, ◌≤◌, ◌<◌, length, get_or, take, Result as Reply, Ok, Err}
use Rattle.lists.specs.Select.{each}
use Rattle.patterns.specs.declared.Refusal.{Refusal}
use Rattle.patterns.specs.declared.Refusal.TheVariants.{OutDegree}
use Rattle.patterns.specs.Reading.{Result, done, fault}
use Rattle.patterns.specs.Digraph6.{in_format, is_line_body}
use Rattle.digraph6_reading.specs.declared.sizes.Size.{Size}

abbrev pub size_result : Reply Size Refusal → Result (ℕ × ℕ)
size_result (Ok size) = done (size.points, size.used)
size_result (Err c) = fault c

-- bytes of the format, no more than a matrix of 200 points has, and a place of their bits
pub record BitsAsked (body : List ℕ) (p : ℕ) : Type 0 where
  pub format : each in_format body ≡ true
  pub small : length body ≤ 6667
  pub from : p ≤ length body * 6

-- from p on the first bit that is 1 stands at q, or there is none before the end q
pub record FirstOne (bits : List ℕ) (p q : ℕ) : Type 0 where
  pub from : p ≤ q
  pub within : q ≤ length bits
  pub zeros : (i : ℕ) → p ≤ i → i < q → get_or bits i 0 ≡ 0
  pub one : q < length bits → get_or bits q 0 ≡ 1

-- the bytes of a matrix, and a place for each of its points
pub record MatrixAsked (body table : List ℕ) : Type 0 where
  pub small : length table ≤ 200
  pub is_body : is_line_body (length table) body ≡ true

-- whether each row has exactly one neighbour, and then these
abbrev pub matrix_result : Bool → List ℕ → Result (List ℕ)
matrix_result passed table = cond passed (done table) (fault OutDegree)

-- the map in the first places of a table
abbrev pub line_result : Reply ℕ Refusal → List ℕ → Result (List ℕ)
line_result (Ok n) table = done (take n table)
line_result (Err c) table = fault c

-- a line was read into a table of 200 places
pub record LineRead (found : Result (List ℕ)) (r : Reply ℕ Refusal) (table : List ℕ) : Type 0 where
  pub result : line_result r table ≡ found
  pub room : (n : ℕ) → r ≡ Ok n → n ≤ 200
