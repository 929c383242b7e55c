-- Landau's function [document 02, paper 9: the greatest round length; OEIS A000793], the greatest least common multiple of numbers that add up to n or less, for n up
-- to 120: a table made prime after prime.
use Rattle.std.specs.Prelude.{cond, List, [], ◌∷◌, map, ℕ, ◌-◌, ◌*◌, ◌^◌, leb, eqb, get_or, replicate}
use Rattle.lists.specs.Select.{range}
use Rattle.patterns.specs.Census.{greatest}

-- the primes below 120
abbrev pub primes : List ℕ
primes =
    2 ∷ 3 ∷ 5 ∷ 7 ∷ 11 ∷ 13 ∷ 17 ∷ 19 ∷ 23 ∷ 29 ∷ 31 ∷ 37 ∷ 41 ∷ 43 ∷ 47 ∷ 53 ∷ 59 ∷ 61 ∷ 67 ∷ 71 ∷ 73 ∷ 79 ∷ 83 ∷ 89 ∷ 97 ∷ 101 ∷ 103 ∷ 107 ∷ 109 ∷ 113 ∷ []

-- how many points a factor takes: a factor 1 takes none
abbrev pub cost : ℕ → ℕ
cost k = cond (eqb k 1) 0 k

-- the factor q, and with the points that are left what the row says
unfoldable pub taking : List ℕ → ℕ → ℕ → ℕ
taking row s q =
    let rest = q * get_or row (s - cost q) 0 in
    cond (leb (cost q) s) rest 0

-- the best power of p to take with s points
unfoldable pub best : List ℕ → ℕ → ℕ → ℕ
unfolding taking
best row p s = greatest (map (λ e. taking row s (p ^ e)) (range 0 7))

-- the greatest product of powers of different primes of a list that take at most s points together, for each s from 0 to 120
unfoldable pub products : List ℕ → List ℕ
unfolding best
products [] = replicate 121 1
products (p ∷ ps) =
    let row = products ps in
    map (best row p) (range 0 121)

unfoldable pub landau : List ℕ
unfolding products
landau = products primes
