-- The least common multiple of two numbers, and of a list.
use Rattle.std.specs.Prelude.{cond, List, [], ◌∷◌, ℕ, zero, suc, ◌+◌, ◌%◌, eqb}

-- the first of m, m + a, m + 2 · a, .. that b divides, or the last of k more
unfoldable pub multiple_from : ℕ → ℕ → ℕ → ℕ → ℕ
multiple_from a b zero m = m
multiple_from a b (suc k) m =
    let later = multiple_from a b k (m + a) in
    cond (eqb (m % b) 0) m later

-- the first of a, 2 · a, .. that b divides
unfoldable pub lcm : ℕ → ℕ → ℕ
unfolding multiple_from
lcm a b = multiple_from a b b a

-- of a and the numbers of a list
unfoldable pub lcm_from : ℕ → List ℕ → ℕ
unfolding lcm
lcm_from a [] = a
lcm_from a (x ∷ l) = lcm_from (lcm a x) l
