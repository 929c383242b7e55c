-- What the cutting functions answer: of one byte by the definition `cut_step`, of a whole slice by the definition `cut`.
use Rattle.std.specs.Prelude.{◌≡◌, List, ◌++◌, ℕ, ◌+◌, length, take, drop, Result as Reply, Ok, Err}
use Rattle.patterns.specs.declared.Refusal.{Refusal}
use Rattle.patterns.specs.Reading.{Result, done, fault, cut}
use Rattle.patterns.specs.OnePass.{Known, whole, begun, broken}
use Rattle.cutting.specs.declared.Cut.{Cut}
use Rattle.cutting.specs.declared.Piece.{Piece}
use Rattle.cutting.specs.declared.Piece.TheVariants.{Whole, Begun}

-- what is told of a number after one of its bytes: its value where it has ended, else its beginning and 128, which is its first byte
abbrev pub step_reply : Known → Reply Piece Refusal
step_reply (whole n) = Ok (Whole n)
step_reply (begun v) = Ok (Begun (v + 128))
step_reply (broken c) = Err c

-- how many numbers, and the length of the bytes
abbrev pub cut_reply : ℕ → Result (List ℕ) → Reply Cut Refusal
cut_reply n (done xs) = Ok record { numbers = length xs; bytes = n }
cut_reply n (fault c) = Err c

-- the first places hold the numbers, as many as fit, and the places after them keep what they held
abbrev pub stored : List ℕ → List ℕ → List ℕ
stored xs out = take (length out) xs ++ drop (length xs) out

-- A whole slice s was cut, and the output was lent as `before`. Where s is refused, what the output then holds is left free.
pub record CutInto (s before : List ℕ) (r : Reply Cut Refusal) (after : List ℕ) : Type 0 where
  pub same : length after ≡ length before
  pub reply : r ≡ cut_reply (length s) (cut s)
  pub output : (xs : List ℕ) → cut s ≡ done xs → after ≡ stored xs before
