-- A search for the first completion: the map of the system is renamed by every arrangement of its points that fits, and the least table is kept.
-- An arrangement is dropped as soon as an arrow among the points placed so far leaves its span.
use Rattle.std.specs.Prelude.{Bool, cond, not, ◌||◌, List, [], ◌∷◌, map, ltb, length, get_or, set}
use Rattle.std.proofs.Math.Option.{Option, none, some}
use Prim.Native.Nat.{ℕ, zero, suc, compare}
use Rattle.lists.specs.Order.{at_most, lex}
use Rattle.lists.specs.Select.{each, gather, range}
use Rattle.patterns.specs.Table.{image}
use Rattle.counting_theory.specs.Renaming.{renamed_table}
use Rattle.completion_theory.specs.Completion.{in_span}

-- the entries at i and j exchanged
abbrev pub swap : ℕ → ℕ → List ℕ → List ℕ
swap i j r = set (set r i (get_or r j 0)) j (get_or r i 0)

-- the points of m get their names from r: the arrow from j, where it goes to one of the first i points, is in its span
abbrev pub arrow_fits : List (List ℕ) → List ℕ → ℕ → List ℕ → ℕ → Bool
arrow_fits spans m i r j = not (ltb (image m j) i) || in_span spans (image r j) (image r (image m j))

-- every arrow among the first i points fits
unfoldable pub fits : List (List ℕ) → List ℕ → ℕ → List ℕ → Bool
fits spans m i r = each (arrow_fits spans m i r) (range 0 i)

-- the arrangements of r that fit, where the first i places are as they are and k places are left
unfoldable pub arrangements : List (List ℕ) → List ℕ → ℕ → ℕ → List ℕ → List (List ℕ)
unfolding fits
arrangements spans m i zero r = cond (fits spans m i r) (r ∷ []) []
arrangements spans m i (suc k) r =
    let more = gather (λ j. arrangements spans m (suc i) k (swap i j r)) (range i (suc k)) in
    cond (fits spans m i r) more []

-- the lesser of the best so far, if there is one, and t
abbrev pub lesser_of : Option (List ℕ) → List ℕ → Option (List ℕ)
lesser_of none t = some t
lesser_of (some b) t = some (cond (at_most (lex compare) b t) b t)

-- the least of a list and the best so far
abbrev pub best_of : Option (List ℕ) → List (List ℕ) → Option (List ℕ)
best_of o [] = o
best_of o (t ∷ ts) = best_of (lesser_of o t) ts

-- the least table that a fitting arrangement of the points of m gives
unfoldable pub searched : List (List ℕ) → List ℕ → Option (List ℕ)
unfolding arrangements renamed_table
searched spans m = best_of none (map (renamed_table (length m) m) (arrangements spans m 0 (length m) (range 0 (length m))))
