-- The written code of a canonical system of at most 200 points is accepted as that system, and whatever is accepted is the written code of a
-- canonical system. A written code has at most 804 bytes.
use mathlib.Core.Path.{◌≡◌, refl, ap, sym, ◌∙◌}
use mathlib.Core.Bool.{true}
use mathlib.Core.List.{List, [], ◌∷◌}
use Prim.Native.Nat.{ℕ, ◌≤◌, ◌<◌}
use native.Mathlib.Omega.{arith}
use lib.ListN.{length}
use Rattle.lists.specs.Select.{gather}
use Rattle.patterns.specs.Tree.{Tree, point, merge, size, below, code}
use Rattle.patterns.specs.Component.{Component, points, flat}
use Rattle.patterns.specs.System.{System, weight, canonical}
use Rattle.patterns.specs.Written.{component_numbers, numbers, bytes, written}
use Rattle.patterns.specs.Reading.{Result, done, fault, cut, read_system, accepted}
use Rattle.form_theory.proofs.Results.{Good, good-weaken, good-then, good-done}
use Rattle.form_theory.proofs.Bounds.{all_below, below-cons, below-append}
use Rattle.form_theory.proofs.Numbers.{cut-bytes, cut-good, bytes_below}
use Rattle.component_theory.proofs.Generation.{length-points}
use Rattle.form_theory.proofs.WrittenShort.{written-short}
use Rattle.form_theory.proofs.Readback.{components-points, canonical-nonempty, read-system, system-good}
use Rattle.patterns.proofs.Trees.{size-positive}

-- the numbers of a tree, component or system are below any bound on its points
inner_below : (k : ℕ) (t : Tree) → size t < k → all_below k (below t) ≡ true
inner_below k point h = refl
inner_below k (merge t u) h =
    below-append k (below t) (code u) (inner_below k t (omega (arith, size-positive u)))
    (below-cons k (size u) (below u) (omega (arith, size-positive t)) (inner_below k u (omega (arith, size-positive t))))

code_below : (k : ℕ) (t : Tree) → size t < k → all_below k (code t) ≡ true
code_below k t h = below-cons k (size t) (below t) h (inner_below k t h)

flat-below : (k : ℕ) (c : Component) → points c < k → all_below k (flat c) ≡ true
flat-below k [] h = refl
flat-below k (t ∷ c) h = below-append k (code t) (flat c) (code_below k t (omega arith)) (flat-below k c (omega arith))

components-below : (k : ℕ) (S : System) → weight S < k → all_below k (gather component_numbers S) ≡ true
components-below k [] h = refl
components-below k (c ∷ S) h =
    below-append k (component_numbers c) (gather component_numbers S)
    (below-cons k (length c) (flat c) (omega (arith, length-points c)) (flat-below k c (omega arith))) (components-below k S (omega arith))

pub numbers-below : (k : ℕ) (S : System) → canonical S ≡ true → weight S < k → all_below k (numbers S) ≡ true
numbers-below k S c h =
    below-cons k (weight S) (length S ∷ gather component_numbers S) h
    (below-cons k (length S) (gather component_numbers S) (omega (arith, components-points S (canonical-nonempty S c))) (components-below k S h))

module _ (S : System) (c : canonical S ≡ true) (h : weight S ≤ 200) where
  numbers-short : all_below 16384 (numbers S) ≡ true
  numbers-short = numbers-below 16384 S c (omega arith)

  -- the written code is accepted as the system
  pub written_back : accepted (written S) ≡ done S
  unfolding accepted written
  written_back = rw (cut-bytes (numbers S) numbers-short) (read-system S c h)

  pub written-fits : length (written S) ≤ 804
  written-fits = written-short S (canonical-nonempty S c) h

  pub written-bytes : all_below 256 (written S) ≡ true
  unfolding written
  written-bytes = bytes_below (numbers S) numbers-short

abbrev Code : List ℕ → System → Type 0
Code b S = (b ≡ written S) × (canonical S ≡ true) × (weight S ≤ 200)

accepted-good : (b : List ℕ) → all_below 256 b ≡ true → Good (Code b) (accepted b)
unfolding accepted written
accepted-good b h =
    good-then _ (Code b) (cut b) read_system (cut-good b h) (λ xs q.
    good-weaken _ (Code b) (read_system xs) (system-good xs) (λ S r. (q.0 ∙ ap bytes r.0, r.1, r.2)))

-- bytes that are accepted are the written code of a canonical system
pub accepted-is : (b : List ℕ) (S : System) → all_below 256 b ≡ true → accepted b ≡ done S → (b ≡ written S) × (canonical S ≡ true) × (weight S ≤ 200)
accepted-is b S h e = good-done (Code b) (accepted b) S e (accepted-good b h)

anything-good : {A : Type 0} (r : Result A) → Good (λ x. Unit {0}) r
anything-good (done x) = tt
anything-good (fault c) = tt

abbrev Sound : System → Type 0
Sound S = (canonical S ≡ true) × (weight S ≤ 200)

-- what is accepted is canonical, with at most 200 points
pub accepted-canonical : (b : List ℕ) (S : System) → accepted b ≡ done S → (canonical S ≡ true) × (weight S ≤ 200)
unfolding accepted
accepted-canonical b S e =
    good-done Sound (accepted b) S e
    (good-then (λ xs. Unit {0}) Sound (cut b) read_system (anything-good (cut b)) (λ xs u.
    good-weaken _ Sound (read_system xs) (system-good xs) (λ R q. (q.1, q.2))))

-- systems with one written code are equal
pub written-equal : (S R : System) → canonical S ≡ true → canonical R ≡ true → weight S ≤ 200 → weight R ≤ 200 → written S ≡ written R → S ≡ R
written-equal S R c d h k e = let p : done S ≡ done R = sym (written_back S c h) ∙ ap accepted e ∙ written_back R d k in cc
