-- What was read has a tree in each component, and at most 200 points.
use mathlib.Core.Path.{◌≡◌, refl}
use mathlib.Core.Bool.{true, ◌&&◌, ◌||◌}
use mathlib.Core.List.{List, [], ◌∷◌}
use Prim.Native.Nat.{ℕ, zero, suc, ◌+◌, ◌-◌, ◌≤◌, ◌<◌}
use native.Mathlib.Omega.{arith}
use lib.Dec.{ltb, eqb}
use lib.ListN.{length, drop}
use borrow.Author.Tests.{ltb-false}
use Rattle.lists.specs.Select.{each}
use Rattle.lists.proofs.Tests.{choose-case, each-cons}
use Rattle.patterns.specs.Component.{Component, points, nonempty}
use Rattle.patterns.specs.System.{System, weight}
use Rattle.patterns.specs.Reading.{Result, done, fault, and_then, cut, read_components}
use Rattle.form_theory.specs.ReadComponent.{read_component}
use Rattle.reading.specs.Shape.{ended, shape_body, shape, code_shape}
use Rattle.form_theory.proofs.Results.{Good, good-then, good-mapped}
use Rattle.form_theory.proofs.ReadFrom.{ComponentsOf, components-good}
use Rattle.component_reading.proofs.ComponentsRead.{components-next}
use Rattle.form_theory.proofs.ReadFrom.{ComponentOf, component-good}

some-tree : (c : Component) → 0 < length c → nonempty c ≡ true
some-tree [] h = absurd (omega arith)
some-tree (t ∷ c) h = refl

abbrev Sound : ℕ → System → Type 0
Sound n S = (each nonempty S ≡ true) × (weight S ≡ n)

none-sound : (left : ℕ) (s : List ℕ) → Good (λ S. each nonempty S ≡ true) (read_components zero left s)
unfolding read_components
none-sound left s = choose-case (Good (λ S. each nonempty S ≡ true)) (eqb left 0) (λ e. refl) (λ e. tt)

components-sound : (m left : ℕ) (s : List ℕ) → Good (λ S. each nonempty S ≡ true) (read_components m left s)
components-sound zero left s = none-sound left s
components-sound (suc m) left s =
    rw (components-next m left s)
    (good-then (ComponentOf left s) (λ S. each nonempty S ≡ true) (read_component left s) _ (component-good left s) (λ c q.
    good-mapped (λ S. each nonempty S ≡ true) (λ S. each nonempty S ≡ true) (read_components m (left - points c) (drop (suc (points c)) s)) (c ∷◌)
    (components-sound m (left - points c) (drop (suc (points c)) s))
    (λ S r. each-cons nonempty {x = c} S (some-tree c q.1) r)))

ended-good : (P : System → Type 0) (S : System) (l : List ℕ) → P S → Good P (ended S l)
ended-good P S [] h = h
ended-good P S (x ∷ l) h = tt

both-good : {A : Type 0} (P Q : A → Type 0) (r : Result A) → Good P r → Good Q r → Good (λ x. P x × Q x) r
both-good P Q (done x) p q = (p, q)
both-good P Q (fault c) p q = tt

body-sound : (n : ℕ) (s : List ℕ) → Good (Sound n) (shape_body n s)
unfolding shape_body
body-sound n [] = tt
body-sound n (m ∷ s) =
    choose-case (Good (Sound n)) (ltb n m || (eqb m 0 && ltb 0 n)) (λ e. tt) (λ e.
    good-then (λ S. (each nonempty S ≡ true) × ComponentsOf m n s S) (Sound n) (read_components m n s) _
    (both-good (λ S. each nonempty S ≡ true) (ComponentsOf m n s) (read_components m n s) (components-sound m n s) (components-good m n s))
    (λ S q. ended-good (Sound n) S (drop (length S + weight S) s) (q.0, q.1.2)))

shape-sound : (xs : List ℕ) → Good (λ S. (each nonempty S ≡ true) × (weight S ≤ 200)) (shape xs)
unfolding shape
shape-sound [] = tt
shape-sound (n ∷ s) =
    choose-case (Good (λ S. (each nonempty S ≡ true) × (weight S ≤ 200))) (ltb 200 n) (λ e. tt) (λ e.
    of (shape_body n s) (body-sound n s) (ltb-false 200 n e))
  where
    of : (r : Result System) → Good (Sound n) r → n ≤ 200 → Good (λ S. (each nonempty S ≡ true) × (weight S ≤ 200)) r
    of (done S) q h = (q.0, omega (arith, q.1))
    of (fault c) q h = tt

pub code-sound : (b : List ℕ) → Good (λ S. (each nonempty S ≡ true) × (weight S ≤ 200)) (code_shape b)
unfolding code_shape
code-sound b = of (cut b)
  where
    of : (r : Result (List ℕ)) → Good (λ S. (each nonempty S ≡ true) × (weight S ≤ 200)) (and_then r shape)
    of (done xs) = shape-sound xs
    of (fault c) = tt
