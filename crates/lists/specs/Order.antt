-- Comparisons: a function to the kit's `Ordering` (`Ordering.lt`, `Ordering.eq`, `Ordering.gt`), and the lexicographic one over lists.
use Rattle.std.specs.Prelude.{Bool, cond, List, [], ◌∷◌}
use Prim.Native.Nat.{Ordering}
use Rattle.std.proofs.Math.Dec.{is_le, compare_is_eq}

-- the first answer, or where that says equal the second
abbrev pub then : Ordering → Ordering → Ordering
then Ordering.lt o = Ordering.lt
then Ordering.eq o = o
then Ordering.gt o = Ordering.gt

-- x is not greater than y
abbrev pub at_most : {A : Type 0} → (A → A → Ordering) → A → A → Bool
at_most c x y = is_le (c x y)

-- the comparison says equal
abbrev pub same : {A : Type 0} → (A → A → Ordering) → A → A → Bool
same c x y = compare_is_eq (c x y)

-- Lexicographic: the first difference decides, and a proper beginning comes first.
abbrev pub lex : {A : Type 0} → (A → A → Ordering) → List A → List A → Ordering
lex c [] [] = Ordering.eq
lex c [] (y ∷ m) = Ordering.lt
lex c (x ∷ l) [] = Ordering.gt
lex c (x ∷ l) (y ∷ m) =
    let rest = lex c l m in
    then (c x y) rest

-- The same with a flag: where there is no difference, the shorter list comes first if the flag says true, and last if it says false.
-- `next` gives the flag of the lists without their first entries.
abbrev pub lex_by : {A : Type 0} → (A → A → Ordering) → (Bool → Bool) → Bool → List A → List A → Ordering
lex_by c next e [] [] = Ordering.eq
lex_by c next e [] (y ∷ m) = cond e Ordering.lt Ordering.gt
lex_by c next e (x ∷ l) [] = cond e Ordering.gt Ordering.lt
lex_by c next e (x ∷ l) (y ∷ m) =
    let rest = lex_by c next (next e) l m in
    then (c x y) rest
