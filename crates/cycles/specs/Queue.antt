-- A queue of points: the first places of a list hold the points of degree 0.
use Rattle.std.specs.Prelude.{◌≡◌, Bool, false, ◌||◌, List, ℕ, zero, suc, ◌<◌, eqb, length, get_or}

-- z stands at one of the first k places
abbrev pub among : List ℕ → ℕ → ℕ → Bool
among queue zero z = false
among queue (suc k) z = eqb (get_or queue k 0) z || among queue k z

-- the first len places hold different numbers below n
pub record Distinct (queue : List ℕ) (len n : ℕ) : Type 0 where
  pub points : (j : ℕ) → j < len → get_or queue j 0 < n
  pub fresh : (j : ℕ) → j < len → among queue j (get_or queue j 0) ≡ false

-- the first len places hold the points of degree 0, each once
pub record Queue (degrees queue : List ℕ) (len : ℕ) : Type 0 where
  pub same : length queue ≡ length degrees
  pub distinct : Distinct queue len (length degrees)
  pub zeros : (y : ℕ) → y < length degrees → among queue len y ≡ eqb (get_or degrees y 0) 0
