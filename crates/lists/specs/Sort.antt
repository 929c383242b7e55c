-- Insertion sort by a comparison.
use Rattle.std.specs.Prelude.{cond, List, [], ◌∷◌}
use Prim.Native.Nat.{Ordering}
use Rattle.lists.specs.Order.{at_most}

-- x in front of the first entry that it does not exceed
abbrev pub insert : {A : Type 0} → (A → A → Ordering) → A → List A → List A
insert c x [] = x ∷ []
insert c x (y ∷ l) =
    let later = insert c x l in
    cond (at_most c x y) (x ∷ y ∷ l) (y ∷ later)

abbrev pub sort : {A : Type 0} → (A → A → Ordering) → List A → List A
sort c [] = []
sort c (x ∷ l) = insert c x (sort c l)
