-- The shape of a code, by its first numbers and how many there are: that these decide, for any bound above the most numbers of a code of 200 points.
use Rattle.std.specs.Prelude.{Result as Reply}
use mathlib.Core.Path.{◌≡◌, refl, ap, ap₂, sym, ◌∙◌, subst}
use mathlib.Core.Bool.{true, cond, ◌&&◌, ◌||◌}
use mathlib.Core.List.{List, [], ◌∷◌}
use Prim.Native.Nat.{ℕ, zero, suc, ◌+◌, ◌-◌, ◌≤◌, ◌<◌}
use native.Mathlib.Omega.{arith}
use lib.Dec.{ltb, eqb}
use lib.ListN.{length, take, drop, length-drop}
use borrow.Author.Tests.{lt-ltb, le-ltb, ltb-false}
use Rattle.patterns.specs.declared.Refusal.{Refusal}
use Rattle.patterns.specs.declared.Refusal.TheVariants.{Count, Truncated, Sizes, Trailing}
use Rattle.lists.specs.Select.{each}
use Rattle.patterns.specs.Component.{nonempty}
use Rattle.patterns.specs.System.{System, weight}
use Rattle.patterns.specs.Written.{numbers}
use Rattle.patterns.specs.Reading.{Result, done, fault, and_then, read_components}
use Rattle.form_theory.proofs.Results.{or-false}
use Rattle.form_theory.proofs.Readback.{components-points, length-components}
use Rattle.reading.specs.declared.Accepted.{Accepted}
use Rattle.reading.specs.Shape.{ended, shape_body, shape, most_numbers, kept_numbers, AcceptedInto}
use Rattle.reading.proofs.Prefix.{same-else, same_then, components-take}

-- A code of at most n points has no more numbers than `most_numbers` says.
pub numbers-most : (n : ℕ) (S : System) → each nonempty S ≡ true → weight S ≤ n → length (numbers S) ≤ most_numbers n
numbers-most n S c h = omega (arith, length-components S, components-points S c)

-- no number is left after the first `used`
abbrev pub all_used : ℕ → ℕ → System → Result System
all_used used count S = cond (ltb used count) (fault Trailing) (done S)

-- The first numbers of a code of `count` numbers: what is found from them.
unfoldable pub kept_shape : ℕ → List ℕ → Result System
unfolding read_components
kept_shape count [] = fault Truncated
kept_shape count (n ∷ []) = cond (ltb 200 n) (fault Count) (fault Truncated)
kept_shape count (n ∷ m ∷ s) =
    let more = and_then (read_components m n s) (λ S. all_used (suc (suc (length S + weight S))) count S) in
    cond (ltb 200 n) (fault Count) (cond (ltb n m || (eqb m 0 && ltb 0 n)) (fault Sizes) more)

all-used : (S : System) (used : ℕ) (s : List ℕ) → ended S (drop used s) ≡ all_used (suc (suc used)) (suc (suc (length s))) S
all-used S used s = of (drop used s) (length-drop used s)
  where
    of : (l : List ℕ) → length l ≡ length s - used → ended S l ≡ all_used (suc (suc used)) (suc (suc (length s))) S
    of [] e = rw (le-ltb (suc (suc used)) (suc (suc (length s))) (omega arith))
    of (x ∷ l) e = rw (lt-ltb (suc (suc used)) (suc (suc (length s))) (omega arith))

-- The law of the kept numbers, for any bound.
pub shape-kept : (k : ℕ) → most_numbers 200 < k → (xs : List ℕ) → shape xs ≡ kept_shape (length xs) (take k xs)
unfolding shape shape_body kept_shape
shape-kept zero h xs = absurd (omega arith)
shape-kept (suc zero) h xs = absurd (omega arith)
shape-kept (suc (suc k)) h [] = refl
shape-kept (suc (suc k)) h (n ∷ []) = refl
shape-kept (suc (suc k)) h (n ∷ m ∷ s) =
    same-else (ltb 200 n) (fault Count) (λ few.
    same-else (ltb n m || (eqb m 0 && ltb 0 n)) (fault Sizes) (λ fits.
    let o = or-false (ltb n m) (eqb m 0 && ltb 0 n) fits in
    ap (λ r. and_then r (λ S. ended S (drop (length S + weight S) s))) (sym (components-take m n k s (omega (arith, ltb-false 200 n few, ltb-false n m o.0))))
    ∙ same_then (read_components m n (take k s)) (λ S e. all-used S (length S + weight S) s)))

-- more numbers are kept than a code of 200 points has, so they and their count decide
pub kept_read : {s sizes trees : List ℕ} {count : ℕ} {r : Reply Accepted Refusal} → AcceptedInto (kept_shape count s) r sizes trees
    → (xs : List ℕ) → s ≡ take kept_numbers xs → count ≡ length xs → AcceptedInto (shape xs) r sizes trees
kept_read {s} {sizes} {trees} {count} {r} a xs e n =
    subst (λ o. AcceptedInto o r sizes trees) (ap₂ kept_shape n e ∙ sym (shape-kept kept_numbers (omega arith) xs)) a
