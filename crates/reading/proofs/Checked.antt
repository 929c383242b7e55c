-- Reading a code is reading its shape, and then the last check: whether the system is canonical.
use mathlib.Core.Path.{◌≡◌, refl, ap, sym, ◌∙◌}
use mathlib.Core.Bool.{Bool, true, false, cond, ◌&&◌, ◌||◌}
use mathlib.Core.List.{List, [], ◌∷◌}
use Prim.Native.Nat.{ℕ, ◌+◌}
use lib.Dec.{ltb, eqb}
use lib.ListN.{length, drop}
use Rattle.patterns.specs.declared.Refusal.TheVariants.{Count, Sizes, NotCanonical}
use Rattle.patterns.specs.System.{System, weight, canonical}
use Rattle.patterns.specs.Reading.{Result, done, fault, and_then, cut, read_components, finished, read_body, read_system, accepted}
use Rattle.reading.specs.Shape.{ended, shape_body, shape, code_shape}
use Rattle.reading.proofs.Prefix.{same_then}

-- the last check
unfoldable pub checked : System → Result System
unfolding canonical
checked S =
    let tested = canonical S in
    cond tested (done S) (fault NotCanonical)

-- The definition of reading is the shape, and then the last check.
finished-checked : (S : System) (l : List ℕ) → finished S l ≡ and_then (ended S l) checked
unfolding finished checked
finished-checked S [] = refl
finished-checked S (x ∷ l) = refl

then-then : {A B C : Type 0} (r : Result A) (f : A → Result B) (g : B → Result C) → and_then (and_then r f) g ≡ and_then r (λ x. and_then (f x) g)
then-then (done x) f g = refl
then-then (fault c) f g = refl

then-cond : {A B : Type 0} (b : Bool) (x y : Result A) (g : A → Result B) → and_then (cond b x y) g ≡ cond b (and_then x g) (and_then y g)
then-cond true x y g = refl
then-cond false x y g = refl

body-shape : (n : ℕ) (s : List ℕ) → read_body n s ≡ and_then (shape_body n s) checked
unfolding read_body shape_body
body-shape n [] = refl
body-shape n (m ∷ s) =
    ap (cond (ltb n m || (eqb m 0 && ltb 0 n)) (fault Sizes))
    (same_then (read_components m n s) (λ S e. finished-checked S (drop (length S + weight S) s)) ∙ sym (then-then (read_components m n s) _ checked))
    ∙ sym (then-cond (ltb n m || (eqb m 0 && ltb 0 n)) (fault Sizes) _ checked)

read-shape : (xs : List ℕ) → read_system xs ≡ and_then (shape xs) checked
unfolding read_system shape
read-shape [] = refl
read-shape (n ∷ s) = ap (cond (ltb 200 n) (fault Count)) (body-shape n s) ∙ sym (then-cond (ltb 200 n) (fault Count) (shape_body n s) checked)

-- a code is accepted where its shape is in order and the system is canonical
pub accepted-shape : (b : List ℕ) → accepted b ≡ and_then (code_shape b) checked
unfolding accepted code_shape
accepted-shape b = same_then (cut b) (λ xs e. read-shape xs) ∙ sym (then-then (cut b) shape checked)
