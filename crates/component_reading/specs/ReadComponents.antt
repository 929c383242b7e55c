-- What the reader of components asks of the lent memory, what it answers, and what it leaves there.
use Rattle.std.specs.Prelude.{◌≡◌, List, ℕ, ◌+◌, ◌≤◌, length, take, Result as Read, Ok, Err}
use Rattle.patterns.specs.declared.Refusal.{Refusal}
use Rattle.patterns.specs.System.{System, weight}
use Rattle.patterns.specs.Reading.{Result, done, fault}
use Rattle.memory.specs.Memory.{Holds}

-- the lent memory has room for m components of n points in all, and each number of points is a byte
pub record MemoryRoom (m n : ℕ) (sizes trees : List ℕ) : Type 0 where
  pub components : m ≤ length sizes
  pub points : n ≤ length trees
  pub small : n ≤ 200

-- components read from place `at` on take a number each, and as many more as they have points
abbrev pub walked_system : ℕ → Result System → Read ℕ Refusal
walked_system at (done S) = Ok (at + (length S + weight S))
walked_system at (fault c) = Err c

-- the components were read, and the memory then holds them in its first places; after a refusal what it holds is left free
pub record ReadInto (at : ℕ) (o : Result System) (r : Read ℕ Refusal) (sizes trees : List ℕ) : Type 0 where
  pub reply : r ≡ walked_system at o
  pub held : (S : System) → o ≡ done S → Holds S (take (length S) sizes) (take (weight S) trees)
