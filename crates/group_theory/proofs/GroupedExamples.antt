-- The form with copies written once, computed: codes, their bytes in both forms, the causes of refusal, and faults of which the first decides.
use mathlib.Core.Path.{◌≡◌, refl}
use mathlib.Core.List.{[], ◌∷◌, map}
use lib.ListN.{replicate}
use Rattle.patterns.specs.declared.Refusal.TheVariants.{Count, Truncated, NumberForm, Sizes, NotCanonical, Trailing}
use Rattle.patterns.specs.Tree.{point, merge}
use Rattle.patterns.specs.System.{codes}
use Rattle.patterns.specs.Reading.{done, fault, accepted}
use Rattle.patterns.specs.Entry.{gives, fails}
use Rattle.group_theory.specs.GroupedForm.{grouped_code, grouped_accepted, grouped_of, expanded_of}

-- "three fixed points are 3 1 3 1 1" [document 02, paper 13]; and the other codes of 3 points, in the order of the list
pub grouped-codes-of-3 : map grouped_code (codes 3) ≡
    (3 ∷ 1 ∷ 3 ∷ 1 ∷ 1 ∷ [])
    ∷ (3 ∷ 2 ∷ 1 ∷ 1 ∷ 1 ∷ 1 ∷ 2 ∷ 1 ∷ 1 ∷ [])
    ∷ (3 ∷ 2 ∷ 1 ∷ 1 ∷ 1 ∷ 1 ∷ 1 ∷ 2 ∷ 1 ∷ [])
    ∷ (3 ∷ 1 ∷ 1 ∷ 3 ∷ 1 ∷ 1 ∷ 1 ∷ [])
    ∷ (3 ∷ 1 ∷ 1 ∷ 1 ∷ 3 ∷ 2 ∷ 1 ∷ [])
    ∷ (3 ∷ 1 ∷ 1 ∷ 1 ∷ 3 ∷ 1 ∷ 1 ∷ [])
    ∷ (3 ∷ 1 ∷ 1 ∷ 2 ∷ 1 ∷ 2 ∷ 1 ∷ [])
    ∷ []
unfolding codes grouped_code
grouped-codes-of-3 = refl

-- both converters on three fixed points, on the empty code, and on 200 fixed points
pub converted :
    (grouped_of (3 ∷ 3 ∷ 1 ∷ 1 ∷ 1 ∷ 1 ∷ 1 ∷ 1 ∷ []) ≡ gives (3 ∷ 1 ∷ 3 ∷ 1 ∷ 1 ∷ []))
    × (expanded_of (3 ∷ 1 ∷ 3 ∷ 1 ∷ 1 ∷ []) ≡ gives (3 ∷ 3 ∷ 1 ∷ 1 ∷ 1 ∷ 1 ∷ 1 ∷ 1 ∷ []))
    × (grouped_of (0 ∷ 0 ∷ []) ≡ gives (0 ∷ 0 ∷ []))
    × (expanded_of (0 ∷ 0 ∷ []) ≡ gives (0 ∷ 0 ∷ []))
    × (grouped_of (200 ∷ 1 ∷ 200 ∷ 1 ∷ replicate 400 1) ≡ gives (200 ∷ 1 ∷ 1 ∷ 200 ∷ 1 ∷ 1 ∷ 1 ∷ []))
unfolding grouped_of expanded_of
converted = (refl, refl, refl, refl, refl)

-- The same bytes in both forms: 2 1 2 1 1 is a cycle of two points where each copy is written out, and two fixed points here. So the forms must not be mixed up.
pub read-in-both :
    (accepted (2 ∷ 1 ∷ 2 ∷ 1 ∷ 1 ∷ []) ≡ done ((point ∷ point ∷ []) ∷ []))
    × (grouped_accepted (2 ∷ 1 ∷ 2 ∷ 1 ∷ 1 ∷ []) ≡ done ((point ∷ []) ∷ (point ∷ []) ∷ []))
unfolding accepted grouped_accepted
read-in-both = (refl, refl)

-- copies of a component of two points
pub copies-of-two : grouped_accepted (4 ∷ 1 ∷ 2 ∷ 1 ∷ 2 ∷ 1 ∷ []) ≡ done ((merge point point ∷ []) ∷ (merge point point ∷ []) ∷ [])
unfolding grouped_accepted
copies-of-two = refl

-- 201 points are refused, whatever follows; a number in a form that is not written comes before all
pub count-refused :
    (grouped_accepted (201 ∷ 1 ∷ []) ≡ fault Count) × (grouped_accepted (201 ∷ 1 ∷ 0 ∷ []) ≡ fault Count) × (grouped_accepted (201 ∷ 1 ∷ 128 ∷ 0 ∷ []) ≡ fault NumberForm)
unfolding grouped_accepted
count-refused = (refl, refl, refl)

-- a number is missing: n, that of the groups, copies, k, a tree
pub missing-refused :
    (grouped_accepted [] ≡ fault Truncated)
    × (grouped_accepted (3 ∷ []) ≡ fault Truncated)
    × (grouped_accepted (3 ∷ 1 ∷ []) ≡ fault Truncated)
    × (grouped_accepted (3 ∷ 1 ∷ 3 ∷ []) ≡ fault Truncated)
    × (grouped_accepted (3 ∷ 1 ∷ 3 ∷ 1 ∷ []) ≡ fault Truncated)
unfolding grouped_accepted
missing-refused = (refl, refl, refl, refl, refl)

-- no groups with n above 0, more groups than n; copies of 0, copies above the points left, first and later; k of 0, k above 3 / 2; a tree of 0, a tree above 4 / 2,
-- a second tree above what the first left of 6 / 2; each also where the next number is missing
pub sizes-refused :
    (grouped_accepted (3 ∷ 0 ∷ []) ≡ fault Sizes)
    × (grouped_accepted (3 ∷ 4 ∷ []) ≡ fault Sizes)
    × (grouped_accepted (0 ∷ 1 ∷ []) ≡ fault Sizes)
    × (grouped_accepted (3 ∷ 1 ∷ 0 ∷ []) ≡ fault Sizes)
    × (grouped_accepted (3 ∷ 1 ∷ 4 ∷ []) ≡ fault Sizes)
    × (grouped_accepted (3 ∷ 2 ∷ 2 ∷ 1 ∷ 1 ∷ 2 ∷ []) ≡ fault Sizes)
    × (grouped_accepted (3 ∷ 2 ∷ 1 ∷ 0 ∷ []) ≡ fault Sizes)
    × (grouped_accepted (3 ∷ 1 ∷ 2 ∷ 2 ∷ []) ≡ fault Sizes)
    × (grouped_accepted (4 ∷ 1 ∷ 2 ∷ 1 ∷ 0 ∷ []) ≡ fault Sizes)
    × (grouped_accepted (4 ∷ 1 ∷ 2 ∷ 1 ∷ 3 ∷ []) ≡ fault Sizes)
    × (grouped_accepted (6 ∷ 1 ∷ 2 ∷ 2 ∷ 1 ∷ 3 ∷ []) ≡ fault Sizes)
unfolding grouped_accepted
sizes-refused = (refl, refl, refl, refl, refl, refl, refl, refl, refl, refl, refl)

-- points left after the last group, also with numbers left: the copies count
pub points-left-refused :
    (grouped_accepted (3 ∷ 1 ∷ 2 ∷ 1 ∷ 1 ∷ []) ≡ fault Sizes)
    × (grouped_accepted (2 ∷ 1 ∷ 1 ∷ 1 ∷ 1 ∷ []) ≡ fault Sizes)
    × (grouped_accepted (3 ∷ 1 ∷ 2 ∷ 1 ∷ 1 ∷ 9 ∷ []) ≡ fault Sizes)
unfolding grouped_accepted
points-left-refused = (refl, refl, refl)

-- numbers left after the code, also after groups that do not rise
pub trailing-refused :
    (grouped_accepted (3 ∷ 1 ∷ 3 ∷ 1 ∷ 1 ∷ 9 ∷ []) ≡ fault Trailing)
    × (grouped_accepted (0 ∷ 0 ∷ 0 ∷ []) ≡ fault Trailing)
    × (grouped_accepted (2 ∷ 2 ∷ 1 ∷ 1 ∷ 1 ∷ 1 ∷ 1 ∷ 1 ∷ 9 ∷ []) ≡ fault Trailing)
unfolding grouped_accepted
trailing-refused = (refl, refl, refl)

-- "Groups that do not rise strictly are 6" [document 02, paper 13]: one component in two groups, the same with copies, out of order; and a component that is not valid
pub rising-refused :
    (grouped_accepted (2 ∷ 2 ∷ 1 ∷ 1 ∷ 1 ∷ 1 ∷ 1 ∷ 1 ∷ []) ≡ fault NotCanonical)
    × (grouped_accepted (4 ∷ 2 ∷ 2 ∷ 1 ∷ 1 ∷ 2 ∷ 1 ∷ 1 ∷ []) ≡ fault NotCanonical)
    × (grouped_accepted (3 ∷ 2 ∷ 1 ∷ 2 ∷ 1 ∷ 1 ∷ 1 ∷ 1 ∷ 1 ∷ []) ≡ fault NotCanonical)
    × (grouped_accepted (3 ∷ 1 ∷ 1 ∷ 2 ∷ 2 ∷ 1 ∷ 1 ∷ []) ≡ fault NotCanonical)
unfolding grouped_accepted
rising-refused = (refl, refl, refl, refl)

-- each converter checks the form that it reads
pub converters-refuse :
    (grouped_of (3 ∷ 1 ∷ 3 ∷ 1 ∷ 1 ∷ []) ≡ fails Truncated) × (expanded_of (3 ∷ 3 ∷ 1 ∷ 1 ∷ 1 ∷ 1 ∷ 1 ∷ 1 ∷ []) ≡ fails Truncated)
unfolding grouped_of expanded_of
converters-refuse = (refl, refl)
