-- Entries "first code for a count" and "successor", computed, and what the order of the list rests on.
use mathlib.Core.Path.{◌≡◌, refl}
use mathlib.Core.Bool.{false}
use mathlib.Core.List.{[], ◌∷◌}
use lib.ListN.{replicate}
use Rattle.patterns.specs.declared.Refusal.TheVariants.{Count, Trailing}
use Rattle.patterns.specs.Tree.{point}
use Rattle.patterns.specs.Component.{valid_component}
use Rattle.patterns.specs.Generation.{is_child}
use Rattle.patterns.specs.Entry.{gives, fails, first_of, successor_of}
use Rattle.patterns.specs.Sheet.{AllHold, has_successor, no_successor}

-- as many components of one point as there are points
pub first-codes :
    (first_of 0 ≡ gives (0 ∷ 0 ∷ [])) × (first_of 3 ≡ gives (3 ∷ 3 ∷ 1 ∷ 1 ∷ 1 ∷ 1 ∷ 1 ∷ 1 ∷ [])) × (first_of 201 ≡ fails Count)
unfolding first_of
first-codes = (refl, refl, refl)

pub first-of-200 : first_of 200 ≡ gives (200 ∷ 1 ∷ 200 ∷ 1 ∷ replicate 400 1)
unfolding first_of
first-of-200 = refl

-- the rightmost component moves; then the sizes move; the last code has none after it
pub codes-that-follow : AllHold (
    has_successor (3 ∷ 2 ∷ 1 ∷ 1 ∷ 2 ∷ 1 ∷ 1 ∷ []) (3 ∷ 2 ∷ 1 ∷ 1 ∷ 1 ∷ 2 ∷ 1 ∷ [])
    ∷ has_successor (3 ∷ 2 ∷ 1 ∷ 1 ∷ 1 ∷ 2 ∷ 1 ∷ []) (3 ∷ 1 ∷ 3 ∷ 1 ∷ 1 ∷ 1 ∷ [])
    ∷ no_successor (3 ∷ 1 ∷ 2 ∷ 1 ∷ 2 ∷ 1 ∷ [])
    ∷ [])
unfolding AllHold successor_of
codes-that-follow = (refl, (refl, (refl, tt)))

-- what is no code has no successor
pub successor-of-no-code : successor_of (3 ∷ 1 ∷ 2 ∷ 1 ∷ 2 ∷ 1 ∷ 1 ∷ []) ≡ fails Trailing
unfolding successor_of
successor-of-no-code = refl

-- a component has a tree
pub component-not-empty : valid_component [] ≡ false
unfolding valid_component
component-not-empty = refl

-- the cycle of n points has no parent, and so is nobody's child
pub cycle-no-child : is_child (point ∷ point ∷ []) (point ∷ point ∷ []) ≡ false
unfolding is_child
cycle-no-child = refl
