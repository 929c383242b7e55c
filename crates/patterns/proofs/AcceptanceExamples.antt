-- Entry "accept", computed: accepted codes with their n, the causes that a code can have, and codes with two faults, of which the first decides.
use mathlib.Core.Path.{◌≡◌, refl}
use mathlib.Core.List.{[], ◌∷◌}
use lib.ListN.{replicate}
use Rattle.patterns.specs.declared.Refusal.TheVariants.{Truncated, NumberForm}
use Rattle.patterns.specs.Tree.{point}
use Rattle.patterns.specs.Written.{written}
use Rattle.patterns.specs.Reading.{done, fault, cut}
use Rattle.patterns.specs.Replies.{length_is}
use Rattle.patterns.specs.Entry.{accept_of}
use Rattle.patterns.specs.Sheet.{AllHold, refused_with}

-- numbers of one and of two bytes, at their bounds
pub numbers-cut : cut (127 ∷ 128 ∷ 1 ∷ 255 ∷ 127 ∷ 0 ∷ 127 ∷ []) ≡ done (127 ∷ 128 ∷ 16383 ∷ 0 ∷ 127 ∷ [])
unfolding cut
numbers-cut = refl

-- a first byte without its second; the second byte 0 or 128, where a later number has the other fault
pub numbers-not-cut :
    (cut (1 ∷ 255 ∷ []) ≡ fault Truncated) × (cut (128 ∷ 0 ∷ 128 ∷ []) ≡ fault NumberForm) × (cut (255 ∷ 128 ∷ 255 ∷ []) ≡ fault NumberForm)
unfolding cut
numbers-not-cut = (refl, refl, refl)

-- and so they are written
pub numbers-written :
    (written (replicate 127 point ∷ []) ≡ 127 ∷ 1 ∷ 127 ∷ replicate 127 1) × (written (replicate 128 point ∷ []) ≡ 128 ∷ 1 ∷ 1 ∷ 128 ∷ 1 ∷ replicate 128 1)
unfolding written
numbers-written = (refl, refl)

-- an accepted code is answered by its n, also where that is neither its length in bytes nor its number of components
pub accepted-with-n :
    (accept_of (0 ∷ 0 ∷ []) ≡ length_is 0)
    × (accept_of (3 ∷ 1 ∷ 1 ∷ 3 ∷ 2 ∷ 1 ∷ []) ≡ length_is 3)
    × (accept_of (3 ∷ 3 ∷ 1 ∷ 1 ∷ 1 ∷ 1 ∷ 1 ∷ 1 ∷ []) ≡ length_is 3)
    × (accept_of (4 ∷ 2 ∷ 1 ∷ 1 ∷ 2 ∷ 1 ∷ 2 ∷ 1 ∷ []) ≡ length_is 4)
    × (accept_of (7 ∷ 1 ∷ 1 ∷ 7 ∷ 2 ∷ 1 ∷ 4 ∷ 1 ∷ 2 ∷ 1 ∷ []) ≡ length_is 7)
unfolding accept_of
accepted-with-n = (refl, refl, refl, refl, refl)

-- 200 points are accepted: one tree, and 200 components
pub accepted-200 :
    (accept_of (200 ∷ 1 ∷ 1 ∷ 1 ∷ 200 ∷ 1 ∷ replicate 199 1) ≡ length_is 200) × (accept_of (200 ∷ 1 ∷ 200 ∷ 1 ∷ replicate 400 1) ≡ length_is 200)
unfolding accept_of
accepted-200 = (refl, refl)

-- 201 points are not, whatever follows
pub count-refused : AllHold (refused_with 1 (201 ∷ 1 ∷ []) ∷ refused_with 1 (201 ∷ 1 ∷ 0 ∷ []) ∷ refused_with 1 (201 ∷ 1 ∷ 202 ∷ 1 ∷ []) ∷ [])
unfolding AllHold accept_of
count-refused = (refl, (refl, (refl, tt)))

-- the number m of components: missing, above n, 0 with n above 0; the last two also where k is missing
pub components-refused : AllHold (
    refused_with 3 (3 ∷ [])
    ∷ refused_with 5 (3 ∷ 4 ∷ [])
    ∷ refused_with 5 (3 ∷ 0 ∷ [])
    ∷ refused_with 5 (0 ∷ 1 ∷ 1 ∷ [])
    ∷ [])
unfolding AllHold accept_of
components-refused = (refl, (refl, (refl, (refl, tt))))

-- the number k of trees: missing, first and later; 0, first and later; above the points left, first and later, also where a tree is missing
pub trees-refused : AllHold (
    refused_with 3 (3 ∷ 1 ∷ [])
    ∷ refused_with 3 (3 ∷ 2 ∷ 1 ∷ 2 ∷ 1 ∷ [])
    ∷ refused_with 5 (2 ∷ 2 ∷ 0 ∷ 1 ∷ 2 ∷ 1 ∷ [])
    ∷ refused_with 5 (2 ∷ 2 ∷ 1 ∷ 1 ∷ 0 ∷ [])
    ∷ refused_with 5 (3 ∷ 1 ∷ 4 ∷ 1 ∷ [])
    ∷ refused_with 5 (3 ∷ 2 ∷ 1 ∷ 2 ∷ 1 ∷ 2 ∷ [])
    ∷ [])
unfolding AllHold accept_of
trees-refused = (refl, (refl, (refl, (refl, (refl, (refl, tt))))))

-- a tree: missing, 0, above the points left; a branch: missing, 0, above its tree less one; a branch of a branch likewise
pub tree-refused : AllHold (
    refused_with 3 (2 ∷ 1 ∷ 2 ∷ 1 ∷ [])
    ∷ refused_with 5 (1 ∷ 1 ∷ 1 ∷ 0 ∷ [])
    ∷ refused_with 5 (1 ∷ 1 ∷ 1 ∷ 2 ∷ [])
    ∷ refused_with 5 (2 ∷ 1 ∷ 2 ∷ 1 ∷ 2 ∷ [])
    ∷ refused_with 3 (3 ∷ 1 ∷ 1 ∷ 3 ∷ 1 ∷ [])
    ∷ refused_with 5 (2 ∷ 1 ∷ 1 ∷ 2 ∷ 0 ∷ [])
    ∷ refused_with 5 (3 ∷ 1 ∷ 1 ∷ 3 ∷ 3 ∷ [])
    ∷ refused_with 5 (3 ∷ 1 ∷ 1 ∷ 3 ∷ 1 ∷ 2 ∷ [])
    ∷ refused_with 3 (4 ∷ 1 ∷ 1 ∷ 4 ∷ 3 ∷ 2 ∷ [])
    ∷ refused_with 5 (4 ∷ 1 ∷ 1 ∷ 4 ∷ 3 ∷ 3 ∷ [])
    ∷ [])
unfolding AllHold accept_of
tree-refused = (refl, (refl, (refl, (refl, (refl, (refl, (refl, (refl, (refl, (refl, tt))))))))))

-- points left after the last component, also with numbers left; numbers left after the code
pub rest-refused : AllHold (
    refused_with 5 (3 ∷ 2 ∷ 1 ∷ 1 ∷ 1 ∷ 1 ∷ [])
    ∷ refused_with 5 (3 ∷ 1 ∷ 1 ∷ 2 ∷ 1 ∷ 1 ∷ [])
    ∷ refused_with 7 (0 ∷ 0 ∷ 0 ∷ [])
    ∷ refused_with 7 (2 ∷ 2 ∷ 1 ∷ 1 ∷ 1 ∷ 1 ∷ 0 ∷ [])
    ∷ [])
unfolding AllHold accept_of
rest-refused = (refl, (refl, (refl, (refl, tt))))

-- not canonical: components of unequal and of equal size out of order, a rotation, branches, branches of a branch
pub canonical-refused : AllHold (
    refused_with 6 (3 ∷ 2 ∷ 1 ∷ 2 ∷ 1 ∷ 1 ∷ 1 ∷ [])
    ∷ refused_with 6 (4 ∷ 2 ∷ 1 ∷ 2 ∷ 1 ∷ 2 ∷ 1 ∷ 1 ∷ [])
    ∷ refused_with 6 (6 ∷ 1 ∷ 3 ∷ 2 ∷ 1 ∷ 3 ∷ 1 ∷ 1 ∷ 1 ∷ [])
    ∷ refused_with 6 (5 ∷ 1 ∷ 2 ∷ 1 ∷ 4 ∷ 2 ∷ 1 ∷ 1 ∷ [])
    ∷ refused_with 6 (5 ∷ 1 ∷ 1 ∷ 5 ∷ 4 ∷ 2 ∷ 1 ∷ 1 ∷ [])
    ∷ [])
unfolding AllHold accept_of
canonical-refused = (refl, (refl, (refl, (refl, (refl, tt)))))
