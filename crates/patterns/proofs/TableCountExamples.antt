-- How many tables have a code, computed.
use Rattle.std.specs.Prelude.{Ok, Err}
use mathlib.Core.Path.{◌≡◌, refl}
use mathlib.Core.List.{List, [], ◌∷◌, map}
use Prim.Native.Nat.{ℕ, ◌+◌, ◌≤◌, ◌<◌}
use lib.ListN.{replicate}
use borrow.Author.Tests.{lt-ltb, le-ltb}
use Rattle.lists.proofs.Tests.{cond-true, cond-false}
use Rattle.patterns.specs.declared.Refusal.TheVariants.{Truncated, Sizes, NotCanonical, Uncounted}
use Rattle.patterns.specs.System.{System, weight, codes}
use Rattle.patterns.specs.Written.{written}
use Rattle.patterns.specs.Reading.{done, fault}
use Rattle.patterns.specs.Replies.{length_is, refused, quantity_answer}
use Rattle.patterns.specs.TableCount.{tables_with, tables_counted, table_count}

-- document 02, paper 7: "for n = 3, in list order: 1, 3, 6, 2, 6, 3, 6"
pub tables-of-three : map (λ S. table_count (written S)) (codes 3) ≡ map done (1 ∷ 3 ∷ 6 ∷ 2 ∷ 6 ∷ 3 ∷ 6 ∷ [])
unfolding table_count codes written
tables-of-three = refl

-- the empty map is the one table of no points, and no table of another count of points has its code
pub tables-of-none : (table_count (0 ∷ 0 ∷ []) ≡ done 1) × (tables_with 1 [] ≡ 0)
unfolding table_count
tables-of-none = (refl, refl)

-- n fixed points
abbrev fixed : ℕ → List ℕ
fixed n = n ∷ n ∷ replicate (n + n) 1

-- 16 points are too many, after the code's own checks: each of these codes has more than 15 points and a fault of its own
pub uncounted-last :
    (table_count (fixed 16) ≡ fault Uncounted)
    × (table_count (16 ∷ []) ≡ fault Truncated)
    × (table_count (16 ∷ 0 ∷ []) ≡ fault Sizes)
    × (table_count (16 ∷ 1 ∷ 2 ∷ 15 ∷ replicate 15 1) ≡ fault NotCanonical)
unfolding table_count
uncounted-last = (refl, refl, refl, refl)

-- 15 points are counted, and 16 are not, whatever the system
pub fifteen-counted : (S : System) → weight S ≤ 15 → tables_counted S ≡ done (tables_with (weight S) S)
unfolding tables_counted
fifteen-counted S h = cond-false _ _ (le-ltb 15 (weight S) h)

pub sixteen-uncounted : (S : System) → 15 < weight S → tables_counted S ≡ fault Uncounted
unfolding tables_counted
sixteen-uncounted S h = cond-true _ _ (lt-ltb 15 (weight S) h)

-- what each case of the reply says
pub numbers-told :
    (quantity_answer (Ok 1307674368000) ≡ length_is 1307674368000)
    × (quantity_answer (Err Uncounted) ≡ refused 12)
    × (quantity_answer (Err Sizes) ≡ refused 5)
numbers-told = (refl, refl, refl)
