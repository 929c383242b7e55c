-- The last of each list: the available components, and the systems with given sizes.
use mathlib.Core.Path.{◌≡◌, refl, ap, ◌∙◌}
use mathlib.Core.List.{List, [], ◌∷◌, map, reverse}
use mathlib.Core.Bool.{true}
use mathlib.Core.Option
use mathlib.Core.Option.{some}
use Prim.Native.Nat.{ℕ, ◌≤◌, ◌<◌}
use native.Mathlib.Omega.{arith}
use lib.Dec.{eqb}
use borrow.Author.Tests.{eqb-true}
use Rattle.lists.specs.Select.{first}
use Rattle.lists.proofs.Tests.{◌∈◌, by-test}
use Rattle.lists.proofs.Members.{lawful-decides}
use Rattle.lists.proofs.Reversed.{last-from, last-map, last-gather}
use Rattle.patterns.specs.Component.{Component, points, valid_component}
use Rattle.patterns.specs.System.{available, systems}
use Rattle.patterns.proofs.Trees.{compare_component-lawful}
use Rattle.component_theory.specs.Successor.{last_component}
use Rattle.component_theory.proofs.Generation.{generation-complete}
use Rattle.component_theory.proofs.LastComponent.{generation-last}
use Rattle.system_theory.specs.StepBack.{lasts}
use Rattle.system_theory.proofs.Sizes.{Upward, upward-head, upward-tail, upward-from}
use Rattle.system_theory.proofs.Canonical.{of-available}

-- the last component that may stand to the right of p does not depend on p
available-last : (p : Component) (s : ℕ) → (0 < points p → valid_component p ≡ true) → 1 ≤ s → first (reverse (available p s)) ≡ some (last_component s)
unfolding available
available-last p s v h =
    by-test (eqb (points p) s)
    (λ t.
    let e : points p ≡ s = eqb-true (points p) s t in
    rw t (last-from (lawful-decides compare_component-lawful) (rw e at (generation-complete p (v (omega arith)))) ∙ generation-last s (omega arith)))
    (λ t. rw t (generation-last s (omega arith)))

-- the systems with these sizes end in the last way to fill them
abbrev EndLast : List ℕ → Type 0
EndLast sizes = (p : Component) → (0 < points p → valid_component p ≡ true) → Upward (points p) sizes → Upward 1 sizes → first (reverse (systems p sizes)) ≡ some (lasts sizes)

-- so each component has the last way to fill the rest behind it at the end
pub pieces_end : (p : Component) (s : ℕ) (sizes : List ℕ) → EndLast sizes → points p ≤ s → 1 ≤ s → Upward s sizes
    → (c : Component) → c ∈ available p s → first (reverse (map (c ∷◌) (systems c sizes))) ≡ some (c ∷ lasts sizes)
pieces_end p s sizes f h k u c m =
    let a = of-available p s h m in
    let e : points c ≡ s = a.1 in
    last-map (c ∷◌) (systems c sizes) ∙ ap (Option.map (c ∷◌)) (f c (λ i. a.0) (rw e u) (upward-from k u))

pub systems-last : (sizes : List ℕ) → EndLast sizes
unfolding systems
systems-last [] p v u w = refl
systems-last (s ∷ sizes) p v u w =
    last-gather (λ c. map (c ∷◌) (systems c sizes)) (λ c. c ∷ lasts sizes) (available p s)
    (pieces_end p s sizes (systems-last sizes) (upward-head u) (upward-head w) (upward-tail u))
    ∙ ap (Option.map (λ c. c ∷ lasts sizes)) (available-last p s v (upward-head w))
