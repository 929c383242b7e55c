-- The shape of a whole code: all that is checked of it but whether it is canonical. What the reader answers, and what it leaves in the lent memory.
use Rattle.std.specs.Prelude.{◌≡◌, cond, ◌&&◌, ◌||◌, List, [], ◌∷◌, ℕ, ◌+◌, ltb, eqb, length, take, drop, Result as Reply, Ok, Err}
use Rattle.patterns.specs.declared.Refusal.{Refusal}
use Rattle.patterns.specs.declared.Refusal.TheVariants.{Count, Truncated, Sizes, Trailing}
use Rattle.patterns.specs.System.{System, weight}
use Rattle.patterns.specs.Reading.{Result, done, fault, and_then, cut, read_components}
use Rattle.reading.specs.declared.Accepted.{Accepted}
use Rattle.memory.specs.Memory.{Holds}

-- no number is left after the system
abbrev pub ended : System → List ℕ → Result System
ended S [] = done S
ended S (x ∷ rest) = fault Trailing

-- as `read_body` and `read_system` of the definitions, but for the last check, whether the system is canonical
unfoldable pub shape_body : ℕ → List ℕ → Result System
unfolding read_components
shape_body n [] = fault Truncated
shape_body n (m ∷ s) =
    let more = and_then (read_components m n s) (λ S. ended S (drop (length S + weight S) s)) in
    cond (ltb n m || (eqb m 0 && ltb 0 n)) (fault Sizes) more

unfoldable pub shape : List ℕ → Result System
unfolding shape_body
shape [] = fault Truncated
shape (n ∷ s) =
    let more = shape_body n s in
    cond (ltb 200 n) (fault Count) more

-- a written code is cut into numbers, and then the numbers are read
unfoldable pub code_shape : List ℕ → Result System
unfolding cut shape
code_shape b = and_then (cut b) shape

-- the most numbers that a code of n points has: n, m, one for each component and one for each point
abbrev pub most_numbers : ℕ → ℕ
most_numbers n = 2 + (n + n)

-- How many numbers of a code are kept to be read: all that a code of 200 points can have, and one more, which shows that some are left.
abbrev pub kept_numbers : ℕ
kept_numbers = most_numbers 200 + 1

-- the number of components and the number of points
abbrev pub acceptance : Result System → Reply Accepted Refusal
acceptance (done S) = Ok record { components = length S; points = weight S }
acceptance (fault c) = Err c

-- the same for a whole code
pub record AcceptedInto (o : Result System) (r : Reply Accepted Refusal) (sizes trees : List ℕ) : Type 0 where
  pub reply : r ≡ acceptance o
  pub held : (S : System) → o ≡ done S → Holds S (take (length S) sizes) (take (weight S) trees)
