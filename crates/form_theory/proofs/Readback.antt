-- Reading numbers: the numbers of a tree, of a component or of a system are read as what they were, and whatever is read has exactly those numbers.
use mathlib.Core.Path.{◌≡◌, refl, ap, ap₂, sym, ◌∙◌}
use mathlib.Core.Bool.{true, false, ◌&&◌, ◌||◌, true≢false}
use mathlib.Core.List.{List, [], ◌∷◌, ◌++◌, append_assoc, append-nil}
use Prim.Native.Nat.{ℕ, zero, suc, ◌+◌, ◌-◌, ◌≤◌, ◌<◌}
use native.Mathlib.Omega.{arith}
use lib.Dec.{ltb, eqb}
use lib.ListN.{length, drop, length-append, drop_of_length-le}
use lib.Seq.{drop_at}
use borrow.Author.Tests.{le-ltb, ltb-false, eq-eqb, ne_eqb}
use Rattle.lists.specs.Select.{each, gather, total}
use Rattle.lists.proofs.Tests.{choose-case, each-true, each_member, each-head, each_tail}
use Rattle.patterns.specs.Tree.{Tree, size, below, code, branches}
use Rattle.patterns.specs.Component.{Component, points, flat, nonempty, valid_component}
use Rattle.patterns.specs.System.{System, weight, canonical}
use Rattle.patterns.specs.Written.{component_numbers, numbers}
use Rattle.patterns.specs.Reading.{done, read_tree, read_branches, read_trees, read_components, finished, read_body, read_system}
use Rattle.form_theory.proofs.Results.{Good, good-weaken, good-then}
use Rattle.form_theory.proofs.ReadFrom.{ComponentsOf, components-good}
use Rattle.patterns.proofs.Trees.{size-positive, length-code, length-flat, below-branches, size-branches, graft-branches}
use Rattle.patterns.proofs.Rotations.{valid-nonempty}
use Rattle.component_theory.proofs.Generation.{length-points}
use Rattle.component_theory.proofs.CanonicalComponents.{canonical-valid}

total-branches : (t : Tree) → total size (branches t) ≡ size t - 1
total-branches t = omega (arith, size-branches t)

mutual
  unfolding read_tree read_branches

  -- the code of a tree within the limit is read as that tree
  pub read-tree : (f limit : ℕ) (t : Tree) (r : List ℕ) → limit + limit < f → size t ≤ limit → read_tree f limit (code t ++ r) ≡ done t
  read-tree zero limit t r h k = absurd (omega arith)
  read-tree (suc f) limit t r h k =
      let p = size-positive t in
      rw (
        ne_eqb (size t) 0 (λ e. omega arith),
        le-ltb limit (size t) k,
        below-branches t,
        read-branches f (size t - 1) (branches t) r (omega arith) (total-branches t),
        graft-branches t,
      )

  pub read-branches : (f left : ℕ) (bs : List Tree) (r : List ℕ) → left + left + 1 < f → total size bs ≡ left → read_branches f left (gather code bs ++ r) ≡ done bs
  read-branches zero left bs r h k = absurd (omega arith)
  read-branches (suc f) left [] r h k = rw (eq-eqb left 0 (sym k))
  read-branches (suc f) left (t ∷ bs) r h k =
      let p = size-positive t in
      let rest : left - size t ≡ total size bs = omega arith in
      rw (
        ne_eqb left 0 (λ e. omega arith),
        append_assoc (below t) (gather code bs) r,
        read-tree f left t (gather code bs ++ r) (omega arith) (omega arith),
        drop_at (code t) (gather code bs ++ r) (size t) (length-code t),
        rest,
        read-branches f (total size bs) bs r (omega arith) refl,
      )

-- the numbers of k trees with no more points than are left are read as those trees
pub read-trees : (c : Component) (left : ℕ) (r : List ℕ) → points c ≤ left → read_trees (length c) left (flat c ++ r) ≡ done c
unfolding read_trees
read-trees [] left r h = refl
read-trees (t ∷ c) left r h =
    rw (
      append_assoc (below t) (flat c) r,
      read-tree (suc (left + left)) left t (flat c ++ r) (omega arith) (omega arith),
      drop_at (code t) (flat c ++ r) (size t) (length-code t),
      read-trees c (left - size t) r (omega arith),
    )

pub nonempty-length : {A : Type 0} (l : List A) → nonempty l ≡ true → 0 < length l
nonempty-length [] e = absurd (true≢false (sym e))
nonempty-length (x ∷ l) e = omega arith

-- no system of components with trees has more components than points
pub components-points : (S : System) → each nonempty S ≡ true → length S ≤ weight S
components-points [] h = omega arith
components-points (c ∷ S) h =
    omega (arith, nonempty-length c (each-head nonempty c S h), length-points c, components-points S (each_tail nonempty c S h))

pub read-components : (S : System) (left : ℕ) (r : List ℕ) → each nonempty S ≡ true → weight S ≡ left
    → read_components (length S) left (gather component_numbers S ++ r) ≡ done S
unfolding read_components
read-components [] left r h k = rw (eq-eqb left 0 (sym k))
read-components (c ∷ S) left r h k =
    let n = nonempty-length c (each-head nonempty c S h) in
    let m = length-points c in
    let s = gather component_numbers S ++ r in
    rw (
      append_assoc (flat c) (gather component_numbers S) r,
      ne_eqb (length c) 0 (λ e. omega arith),
      le-ltb left (length c) (omega arith),
      read-trees c left s (omega arith),
      drop_at (flat c) s (points c) (length-flat c),
      read-components S (left - points c) r (each_tail nonempty c S h) (omega arith),
    )

pub length-components : (S : System) → length (gather component_numbers S) ≡ length S + weight S
length-components [] = refl
length-components (c ∷ S) = omega (arith, length-append (flat c) (gather component_numbers S), length-flat c, length-components S)

-- each component of a canonical system has a tree
pub canonical-nonempty : (S : System) → canonical S ≡ true → each nonempty S ≡ true
canonical-nonempty S h = each-true nonempty S (λ c m. valid-nonempty c (each_member valid_component (canonical-valid S h) m))

no-points : (S : System) → (eqb (length S) 0 && ltb 0 (weight S)) ≡ false
no-points [] = refl
no-points (c ∷ S) = rw (ne_eqb (suc (length S)) 0 (λ e. omega arith))

-- the numbers of a canonical system of at most 200 points are read as that system
pub read-system : (S : System) → canonical S ≡ true → weight S ≤ 200 → read_system (numbers S) ≡ done S
unfolding read_system
read-system S h k =
    let g = canonical-nonempty S h in
    let r : read_components (length S) (weight S) (gather component_numbers S) ≡ done S =
    ap (read_components (length S) (weight S)) (sym (append-nil (gather component_numbers S))) ∙ read-components S (weight S) [] g refl in
    let d : drop (length S + weight S) (gather component_numbers S) ≡ [] =
    drop_of_length-le (gather component_numbers S) {i = length S + weight S} (rw (length-components S) (omega arith)) in
    rw (le-ltb 200 (weight S) k, le-ltb (weight S) (length S) (components-points S g), no-points S, r, d, h, finished)

abbrev SystemOf : ℕ → List ℕ → System → Type 0
SystemOf n s S = (s ≡ length S ∷ gather component_numbers S) × (weight S ≡ n) × (canonical S ≡ true)

finished-good : (P : System → Type 0) (S : System) (rest : List ℕ) → (rest ≡ [] → canonical S ≡ true → P S) → Good P (finished S rest)
unfolding finished
finished-good P S [] h = choose-case (Good P) (canonical S) (λ e. h refl e) (λ e. tt)
finished-good P S (x ∷ rest) h = tt

body-good : (n : ℕ) (s : List ℕ) → Good (SystemOf n s) (read_body n s)
unfolding read_body
body-good n [] = tt
body-good n (m ∷ s) =
    choose-case (Good (SystemOf n (m ∷ s))) (ltb n m || (eqb m 0 && ltb 0 n)) (λ e. tt) (λ e.
    good-then (ComponentsOf m n s) (SystemOf n (m ∷ s)) (read_components m n s) _ (components-good m n s) (λ S q.
    let g = gather component_numbers S in
    finished-good (SystemOf n (m ∷ s)) S (drop (length S + weight S) s)
    (λ z c. (ap₂ ◌∷◌ (sym q.1) (q.0 ∙ ap (g ++◌) z ∙ append-nil g), q.2, c))))

abbrev pub Accepted : List ℕ → System → Type 0
Accepted s S = (s ≡ numbers S) × (canonical S ≡ true) × (weight S ≤ 200)

pub system-good : (s : List ℕ) → Good (Accepted s) (read_system s)
unfolding read_system
system-good [] = tt
system-good (n ∷ s) =
    choose-case (Good (Accepted (n ∷ s))) (ltb 200 n) (λ e. tt) (λ e.
    let h = ltb-false 200 n e in
    good-weaken (SystemOf n s) (Accepted (n ∷ s)) (read_body n s) (body-good n s) (λ S q. (ap₂ ◌∷◌ (sym q.1) q.0, q.2, omega arith)))
