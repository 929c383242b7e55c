-- Bytes cut into numbers in one pass: document 02, paper 4. "What is known of a number after each byte follows from that byte, its place and the number so far."
-- The numbers and refusals are those of `cut` of Reading, which looks at two bytes at a time.
use Rattle.std.specs.Prelude.{cond, ◌||◌, List, [], ◌∷◌, ◌++◌, ℕ, zero, suc, ◌+◌, ◌-◌, ◌*◌, ltb, leb, eqb}
use Rattle.patterns.specs.declared.Refusal.{Refusal}
use Rattle.patterns.specs.declared.Refusal.TheVariants.{Truncated, NumberForm}
use Rattle.patterns.specs.Reading.{Result, done, fault}

-- what is known of a number after one of its bytes: it has ended with this value, it goes on and this is its beginning, or it is refused
pub data Known : Type 0 where
  whole : ℕ → Known
  begun : ℕ → Known
  broken : Refusal → Known

-- from the byte, its place in its number, counted from 0, and the number so far
abbrev pub cut_step : ℕ → ℕ → ℕ → Known
cut_step x zero v = cond (ltb x 128) (whole x) (begun (x - 128))
cut_step x (suc p) v = cond (eqb x 0 || leb 128 x) (broken NumberForm) (whole (v + x * 128))

-- what is known after some bytes: the numbers that have ended, the place of the next byte in its number, and that number so far; or the first fault
pub data Scan : Type 0 where
  going : List ℕ → ℕ → ℕ → Scan
  stopped : Refusal → Scan

abbrev pub scanned : List ℕ → ℕ → Known → Scan
scanned xs p (whole n) = going (xs ++ (n ∷ [])) 0 0
scanned xs p (begun v) = going xs (suc p) v
scanned xs p (broken c) = stopped c

-- one byte more
abbrev pub scan_step : ℕ → Scan → Scan
scan_step x (going xs p v) = scanned xs p (cut_step x p v)
scan_step x (stopped c) = stopped c

-- each byte once, from left to right
abbrev pub scan_from : Scan → List ℕ → Scan
scan_from s [] = s
scan_from s (x ∷ l) = scan_from (scan_step x s) l

abbrev pub scan : List ℕ → Scan
scan b = scan_from (going [] 0 0) b

-- at the end of the bytes no number may be open
abbrev pub scan_end : Scan → Result (List ℕ)
scan_end (going xs zero v) = done xs
scan_end (going xs (suc p) v) = fault Truncated
scan_end (stopped c) = fault c
