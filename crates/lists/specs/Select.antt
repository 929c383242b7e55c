-- Picking from lists, joining them, and finding a place in them.
use Rattle.std.specs.Prelude.{Bool, true, false, cond, not, ◌&&◌, List, [], ◌∷◌, ◌++◌, reverse, eqb, get_or}
use Rattle.std.proofs.Math.Option.{Option, none, some}
use Prim.Native.Nat.{ℕ, zero, suc, ◌+◌, Ordering, compare}
use Rattle.lists.specs.Order.{same}

-- the entries that pass, in their order
abbrev pub keep : {A : Type 0} → (A → Bool) → List A → List A
keep p [] = []
keep p (x ∷ l) = cond (p x) (x ∷ keep p l) (keep p l)

-- every entry passes
abbrev pub each : {A : Type 0} → (A → Bool) → List A → Bool
each p [] = true
each p (x ∷ l) =
    let others = each p l in
    cond (p x) others false

-- some entry passes
abbrev pub some_of : {A : Type 0} → (A → Bool) → List A → Bool
some_of p [] = false
some_of p (x ∷ l) =
    let others = some_of p l in
    cond (p x) true others

-- the lists that f gives, one after another
abbrev pub gather : {A B : Type 0} → (A → List B) → List A → List B
gather f [] = []
gather f (x ∷ l) = f x ++ gather f l

-- the sum of what f gives
abbrev pub total : {A : Type 0} → (A → ℕ) → List A → ℕ
total f [] = 0
total f (x ∷ l) = f x + total f l

-- a, a + 1, .., k numbers in all
abbrev pub range : ℕ → ℕ → List ℕ
range a zero = []
range a (suc k) = a ∷ range (suc a) k

-- the first entry, if there is one
abbrev pub first : {A : Type 0} → List A → Option A
first [] = none
first (x ∷ l) = some x

-- the first if there is one, else the second
abbrev pub otherwise : {A : Type 0} → Option A → Option A → Option A
otherwise none s = s
otherwise (some x) s = some x

-- the entry that follows the first x, if there is one
abbrev pub next : {A : Type 0} → (A → A → Ordering) → A → List A → Option A
next c x [] = none
next c x (y ∷ l) =
    let later = next c x l in
    cond (same c x y) (first l) later

-- the entry that stands before the last x, if there is one
abbrev pub previous : {A : Type 0} → (A → A → Ordering) → A → List A → Option A
previous c x l = next c x (reverse l)

-- what stands to the left of place i, where a stands to the left of the first; d is read past the end
abbrev pub left_of : {A : Type 0} → A → A → List A → ℕ → A
left_of d a l i = get_or (a ∷ l) i d

-- how many entries stand before the first x (all of them, where x is not there)
abbrev pub place : {A : Type 0} → (A → A → Ordering) → A → List A → ℕ
place c x [] = 0
place c x (y ∷ l) =
    let later = suc (place c x l) in
    cond (same c x y) 0 later

-- the entry at place k, if it passes and stands nowhere before; d is read past the end
unfoldable pub new_at : {A : Type 0} → (A → A → Ordering) → (A → Bool) → A → List A → ℕ → List A
new_at c p d l k =
    let x = get_or l k d in
    cond (p x && eqb (place c x l) k) (x ∷ []) []

-- the list from the first x on
abbrev pub from : {A : Type 0} → (A → A → Ordering) → A → List A → List A
from c x [] = []
from c x (y ∷ l) =
    let later = from c x l in
    cond (same c x y) (y ∷ l) later

-- each entry once, where it first stands
abbrev pub once : {A : Type 0} → (A → A → Ordering) → List A → List A
once c [] = []
once c (x ∷ l) = x ∷ keep (λ y. not (same c x y)) (once c l)

-- how often a number stands in a list
abbrev pub times : ℕ → List ℕ → ℕ
times x l = total (λ y. cond (same compare x y) 1 0) l
