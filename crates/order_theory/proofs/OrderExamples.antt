-- Entry "which comes first", computed.
use mathlib.Core.Path.{◌≡◌, refl}
use mathlib.Core.List.{[], ◌∷◌}
use Prim.Native.Nat.{Ordering}
use Rattle.patterns.specs.declared.Refusal.TheVariants.{Truncated, NotCanonical, Trailing}
use Rattle.patterns.specs.Reading.{done, fault}
use Rattle.order_theory.specs.ListOrder.{compare_of}

-- by the list of 3 points: (3 2 1) comes before (3 1 1), and this before (1)(2 1), though not by their bytes; size lists decide before components
pub orders-of-three :
    (compare_of (3 ∷ 1 ∷ 1 ∷ 3 ∷ 2 ∷ 1 ∷ []) (3 ∷ 1 ∷ 1 ∷ 3 ∷ 1 ∷ 1 ∷ []) ≡ done Ordering.lt)
    × (compare_of (3 ∷ 1 ∷ 2 ∷ 1 ∷ 2 ∷ 1 ∷ []) (3 ∷ 1 ∷ 1 ∷ 3 ∷ 1 ∷ 1 ∷ []) ≡ done Ordering.gt)
    × (compare_of (3 ∷ 1 ∷ 1 ∷ 3 ∷ 1 ∷ 1 ∷ []) (3 ∷ 1 ∷ 1 ∷ 3 ∷ 1 ∷ 1 ∷ []) ≡ done Ordering.eq)
    × (compare_of (3 ∷ 2 ∷ 1 ∷ 1 ∷ 1 ∷ 2 ∷ 1 ∷ []) (3 ∷ 1 ∷ 3 ∷ 1 ∷ 1 ∷ 1 ∷ []) ≡ done Ordering.lt)
unfolding compare_of
orders-of-three = (refl, refl, refl, refl)

-- codes of different counts go by count: the last of 2 points before the first of 3, and no points before all
pub orders-by-count :
    (compare_of (2 ∷ 1 ∷ 1 ∷ 2 ∷ 1 ∷ []) (3 ∷ 3 ∷ 1 ∷ 1 ∷ 1 ∷ 1 ∷ 1 ∷ 1 ∷ []) ≡ done Ordering.lt)
    × (compare_of (3 ∷ 3 ∷ 1 ∷ 1 ∷ 1 ∷ 1 ∷ 1 ∷ 1 ∷ []) (2 ∷ 1 ∷ 1 ∷ 2 ∷ 1 ∷ []) ≡ done Ordering.gt)
    × (compare_of (0 ∷ 0 ∷ []) (1 ∷ 1 ∷ 1 ∷ 1 ∷ []) ≡ done Ordering.lt)
    × (compare_of (0 ∷ 0 ∷ []) (0 ∷ 0 ∷ []) ≡ done Ordering.eq)
unfolding compare_of
orders-by-count = (refl, refl, refl, refl)

-- the first code's checks, then the second's
pub orders-refused :
    (compare_of (3 ∷ []) (2 ∷ 1 ∷ 2 ∷ 1 ∷ 1 ∷ 9 ∷ []) ≡ fault Truncated)
    × (compare_of (2 ∷ 1 ∷ 2 ∷ 1 ∷ 1 ∷ 9 ∷ []) (3 ∷ []) ≡ fault Trailing)
    × (compare_of (0 ∷ 0 ∷ []) (3 ∷ 1 ∷ 2 ∷ 2 ∷ 1 ∷ 1 ∷ []) ≡ fault NotCanonical)
unfolding compare_of
orders-refused = (refl, refl, refl)
