-- The rows of two lists side by side: their lengths, their counts, how many there are, and the rows of parts of both lists.
use mathlib.Core.Path.{◌≡◌, refl, ap, sym, ◌∙◌}
use mathlib.Core.List.{List, [], ◌∷◌, ◌++◌, map}
use Prim.Native.Nat.{ℕ, zero, suc, min}
use native.Mathlib.Omega.{arith}
use native.Mathlib.Nat.{zero-min, min-zero, suc-min-suc}
use lib.ListN.{length, drop, length-map}
use Rattle.patterns.specs.Census.{Row, rows_of}

pub rows-lengths : (a b : List ℕ) → length a ≡ length b → map (λ (r : Row). r.cycle_length) (rows_of a b) ≡ a
rows-lengths [] b e = refl
rows-lengths (x ∷ a) [] e = absurd (omega arith)
rows-lengths (x ∷ a) (y ∷ b) e = ap (λ l. x ∷ l) (rows-lengths a b (omega arith))

pub rows-counts : (a b : List ℕ) → length a ≡ length b → map (λ (r : Row). r.cycles) (rows_of a b) ≡ b
rows-counts [] [] e = refl
rows-counts [] (y ∷ b) e = absurd (omega arith)
rows-counts (x ∷ a) [] e = absurd (omega arith)
rows-counts (x ∷ a) (y ∷ b) e = ap (λ l. y ∷ l) (rows-counts a b (omega arith))

pub rows-length : (a b : List ℕ) → length a ≡ length b → length (rows_of a b) ≡ length a
rows-length a b e = sym (length-map (rows_of a b) (λ (r : Row). r.cycle_length)) ∙ ap length (rows-lengths a b e)

-- each list is what the rows have of it, and what stands behind them
pub first-list : (a b : List ℕ) → a ≡ map (λ (r : Row). r.cycle_length) (rows_of a b) ++ drop (length (rows_of a b)) a
first-list [] b = refl
first-list (x ∷ a) [] = refl
first-list (x ∷ a) (y ∷ b) = ap (λ l. x ∷ l) (first-list a b)

pub second-list : (a b : List ℕ) → b ≡ map (λ (r : Row). r.cycles) (rows_of a b) ++ drop (length (rows_of a b)) b
second-list [] b = refl
second-list (x ∷ a) [] = refl
second-list (x ∷ a) (y ∷ b) = ap (λ l. y ∷ l) (second-list a b)

-- as many as the shorter list has places
pub rows-places : (a b : List ℕ) → length (rows_of a b) ≡ min (length a) (length b)
rows-places [] b = sym (zero-min (length b))
rows-places (x ∷ a) [] = sym (min-zero (suc (length a)))
rows-places (x ∷ a) (y ∷ b) = ap suc (rows-places a b) ∙ sym (suc-min-suc (length a) (length b))

-- counts that a function gives of the lengths
pub rows-given : (g : ℕ → ℕ) (l : List ℕ) → rows_of l (map g l) ≡ map (λ x. record { cycle_length = x; cycles = g x }) l
rows-given g [] = refl
rows-given g (x ∷ l) = ap (λ r. record { cycle_length = x; cycles = g x } ∷ r) (rows-given g l)

pub rows_append : (a b c d : List ℕ) → length a ≡ length b → rows_of (a ++ c) (b ++ d) ≡ rows_of a b ++ rows_of c d
rows_append [] [] c d e = refl
rows_append [] (y ∷ b) c d e = absurd (omega arith)
rows_append (x ∷ a) [] c d e = absurd (omega arith)
rows_append (x ∷ a) (y ∷ b) c d e = ap (λ l. record { cycle_length = x; cycles = y } ∷ l) (rows_append a b c d (omega arith))

pub rows_drop : (n : ℕ) (a b : List ℕ) → rows_of (drop n a) (drop n b) ≡ drop n (rows_of a b)
rows_drop zero a b = refl
rows_drop (suc n) [] b = refl
rows_drop (suc n) (x ∷ a) [] = rows_none (drop n a)
  where
    rows_none : (l : List ℕ) → rows_of l [] ≡ []
    rows_none [] = refl
    rows_none (x ∷ l) = refl
rows_drop (suc n) (x ∷ a) (y ∷ b) = rows_drop n a b
