-- Numbers whose least common multiple fits 64 bits.
use Rattle.std.specs.Prelude.{◌≡◌, true, List, ℕ, ◌<◌, ltb}
use Rattle.lists.specs.Select.{each}
use Rattle.period_theory.specs.Multiples.{lcm, lcm_from}

-- less than 2 to the power 64
abbrev pub Fits64 : ℕ → Type 0
Fits64 k = k < 18446744073709551616

-- two positive numbers
pub record LcmAsked (a b : ℕ) : Type 0 where
  pub first : 0 < a
  pub second : 0 < b
  pub fits : Fits64 (lcm a b)

-- a list of positive numbers
pub record LcmsAsked (s : List ℕ) : Type 0 where
  pub positive : each (ltb 0) s ≡ true
  pub fits : Fits64 (lcm_from 1 s)
