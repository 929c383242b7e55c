-- The first of each list: the available components, the systems with given sizes, and all codes.
use mathlib.Core.Path.{◌≡◌, refl, ap, ap₂, ◌∙◌}
use mathlib.Core.List.{List, [], ◌∷◌, map}
use mathlib.Core.Bool.{true}
use mathlib.Core.Option
use mathlib.Core.Option.{some}
use Prim.Native.Nat.{ℕ, zero, suc, ◌-◌, ◌≤◌, ◌<◌}
use native.Mathlib.Omega.{arith}
use lib.Dec.{eqb}
use lib.ListN.{replicate}
use borrow.Author.Tests.{le-leb, ne_eqb, eqb-true, eqb-false}
use Rattle.lists.specs.Select.{first}
use Rattle.lists.proofs.Tests.{◌∈◌, by-test}
use Rattle.lists.proofs.Members.{lawful-decides}
use Rattle.lists.proofs.Follow.{first_map, first-gather}
use Rattle.patterns.specs.Tree.{point}
use Rattle.patterns.specs.Component.{Component, points, valid_component}
use Rattle.patterns.specs.System.{available, systems, codes, size_lists}
use Rattle.patterns.proofs.Trees.{compare_component-lawful}
use Rattle.system_theory.specs.Step.{least_sizes, cycle, fill, fills}
use Rattle.component_theory.proofs.Generation.{generation-complete, generation-first, cycle-points}
use Rattle.lists.proofs.Neighbours.{first-from}
use Rattle.system_theory.proofs.Sizes.{Upward, upward_nil, upward_cons, upward-head, upward-tail, upward-from, sizes-sound, sizes-first, least-alone}
use Rattle.system_theory.proofs.Canonical.{of-available}

-- the first component that may stand to the right of p
pub available-first : (p : Component) (s : ℕ) → (0 < points p → valid_component p ≡ true) → 1 ≤ s → first (available p s) ≡ some (fill p s)
unfolding available
available-first p zero v h = absurd (omega arith)
available-first p (suc s) v h =
    by-test (eqb (points p) (suc s))
    (λ t.
    let e : points p ≡ suc s = eqb-true (points p) (suc s) t in
    rw t (first-from (lawful-decides compare_component-lawful) (rw e at (generation-complete p (v (omega arith))))))
    (λ t. rw t (generation-first s))

-- a component has the first place to its right filled as its left neighbour has
fill-again : (p : Component) (s r : ℕ) → points p ≤ s → s ≤ r → fill (fill p s) r ≡ fill p r
fill-again p s r h i =
    by-test (eqb (points p) s)
    (λ t. rw t)
    (λ t.
    let n = eqb-false (points p) s t in
    rw (t, cycle-points s, ne_eqb (points p) r (λ e. n (omega arith)))
    (by-test (eqb s r) (λ u. rw u (ap cycle (eqb-true s r u))) (λ u. rw u)))

fills-again : (p : Component) (s : ℕ) {a : ℕ} {sizes : List ℕ} → points p ≤ s → s ≤ a → Upward a sizes → fills (fill p s) sizes ≡ fills p sizes
fills-again p s h k upward_nil = refl
fills-again p s h k (upward_cons {b = r} i u) = ap₂ ◌∷◌ (fill-again p s r h (omega arith)) (fills-again p s h (omega arith) u)

-- to the right of nothing all are cycles
pub fills-cycles : {a : ℕ} {sizes : List ℕ} → 1 ≤ a → Upward a sizes → fills [] sizes ≡ map cycle sizes
fills-cycles h upward_nil = refl
fills-cycles h (upward_cons {b = s} i u) = ap₂ ◌∷◌ (rw (ne_eqb 0 s (λ e. omega arith))) (fills-cycles (omega arith) u)

-- the first system with these sizes to the right of p
pub systems-first : (p : Component) (sizes : List ℕ) → (0 < points p → valid_component p ≡ true) → Upward (points p) sizes → Upward 1 sizes
    → first (systems p sizes) ≡ some (fills p sizes)
unfolding systems
systems-first p [] v u w = refl
systems-first p (s ∷ sizes) v u w =
    let h : points p ≤ s = upward-head u in
    first-gather (λ c. map (c ∷◌) (systems c sizes)) (λ c. c ∷ fills c sizes) (available p s)
    (λ c m.
    let a = of-available p s h m in
    let e : points c ≡ s = a.1 in
    first_map (c ∷◌) (systems c sizes)
    ∙ ap (Option.map (c ∷◌)) (systems-first c sizes (λ k. a.0) (rw e (upward-tail u)) (upward-from (upward-head w) (upward-tail u))))
    ∙ ap (Option.map (λ c. c ∷ fills c sizes)) (available-first p s v (upward-head w))
    ∙ ap (λ l. some (fill p s ∷ l)) (fills-again p s h (omega arith) (upward-tail u))

-- each component in front of the first way to fill the rest
pub pieces-start : (p : Component) (s : ℕ) (sizes : List ℕ) → points p ≤ s → 1 ≤ s → Upward s sizes
    → (c : Component) → c ∈ available p s → first (map (c ∷◌) (systems c sizes)) ≡ some (c ∷ fills c sizes)
pieces-start p s sizes h k u c m =
    let a = of-available p s h m in
    let e : points c ≡ s = a.1 in
    first_map (c ∷◌) (systems c sizes) ∙ ap (Option.map (c ∷◌)) (systems-first c sizes (λ k. a.0) (rw e u) (upward-from k u))

-- the first system of a size list: all cycles
pub sizes-start : {sizes : List ℕ} → Upward 1 sizes → first (systems [] sizes) ≡ some (map cycle sizes)
sizes-start {sizes} u =
    systems-first [] sizes (λ k. absurd (omega arith)) (upward-from (omega arith) u) u ∙ ap some (fills-cycles (omega arith) u)

least-ones : (k n : ℕ) → n ≤ k → least_sizes k 1 (suc n) ≡ replicate (suc n) 1
unfolding least_sizes
least-ones k zero h = least-alone k 1 1 (omega arith)
least-ones zero (suc n) h = absurd (omega arith)
least-ones (suc k) (suc n) h =
    let e : suc (suc n) - 1 ≡ suc n = omega arith in
    rw (le-leb 2 (suc (suc n)) (omega arith), e) (ap (λ l. 1 ∷ l) (least-ones k n (omega arith)))

fixed-points : (n : ℕ) → map cycle (replicate n 1) ≡ replicate n (point ∷ [])
fixed-points zero = refl
fixed-points (suc n) = ap (λ l. (point ∷ []) ∷ l) (fixed-points n)

-- the first code is that of n fixed points
pub codes-first : (n : ℕ) → first (codes n) ≡ some (replicate n (point ∷ []))
unfolding codes
codes-first zero = refl
codes-first (suc n) =
    first-gather (systems []) (map cycle) (size_lists (suc n) 1 (suc n)) (λ l m. sizes-start (sizes-sound (suc n) 1 (suc n) m).0)
    ∙ ap (Option.map (map cycle)) (sizes-first (suc n) 1 (suc n) (omega arith) (omega arith) (omega arith) ∙ ap some (least-ones (suc n) n (omega arith)))
    ∙ ap some (fixed-points (suc n))
