-- The codes of the trees that stand one after another: the first number of each is its size.
use Rattle.std.specs.Prelude.{Bool, true, false, ◌&&◌, List, [], ◌∷◌, ℕ, zero, suc, length, take, drop}
use Rattle.std.proofs.Math.Dec.{leb}

-- the first n of them
abbrev pub first_codes : ℕ → List ℕ → List (List ℕ)
first_codes zero s = []
first_codes (suc n) [] = []
first_codes (suc n) (x ∷ s) = take x (x ∷ s) ∷ first_codes n (drop x (x ∷ s))

unfoldable pub codes : List ℕ → List (List ℕ)
codes s = first_codes (length s) s

-- no size is 0, and at most n of them fill s
abbrev pub filled_by : ℕ → List ℕ → Bool
filled_by n [] = true
filled_by zero (x ∷ s) = false
filled_by (suc n) (x ∷ s) = leb 1 x && leb x (length (x ∷ s)) && filled_by n (drop x (x ∷ s))

unfoldable pub filled : List ℕ → Bool
filled s = filled_by (length s) s
