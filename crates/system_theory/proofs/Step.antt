-- What follows a code in the list of all codes is the step: and so the step gives the least greater code, and none where there is none.
use mathlib.Core.Path.{◌≡◌}
use mathlib.Core.Logic.{◌⊎◌}
use mathlib.Core.List.{[], ◌∷◌, map}
use mathlib.Core.Bool.{true}
use mathlib.Core.Option.{Option, none, some}
use Prim.Native.Nat.{Ordering}
use Prim.Native.Nat.{ℕ}
use native.Mathlib.Omega.{arith}
use lib.Dec.{eqb}
use Rattle.lists.specs.Order.{at_most}
use Rattle.lists.specs.Select.{next}
use Rattle.lists.proofs.Tests.{by-test}
use Rattle.lists.proofs.Permute.{total-map}
use Rattle.lists.proofs.Members.{lawful-decides, in_list}
use Rattle.lists.proofs.Follow.{Within, in_within, within-head, within-from, within-next, within-unique, within-some, within-last, within-map, within-gather, within-some-in}
use Rattle.patterns.specs.Component.{Component, points, compare_component, valid_component}
use Rattle.patterns.specs.Generation.{generation}
use Rattle.patterns.specs.System.{System, weight, compare_generated, is_in_order, canonical, available, systems, codes, compare_codes, compare_system}
use Rattle.patterns.proofs.Trees.{compare_system-lawful}
use Rattle.component_theory.specs.Successor.{successor}
use Rattle.patterns.proofs.Rotations.{points-positive}
use Rattle.system_theory.specs.Step.{cycle, fills, bump, step}
use Rattle.component_theory.proofs.Generation.{generation-once}
use Rattle.component_theory.proofs.Successor.{successor-within}
use Rattle.lists.proofs.Neighbours.{neighbours-gap, last-greatest}
use Rattle.system_theory.proofs.Sizes.{upward-from, sum, sizes-sound, sizes-within}
use Rattle.system_theory.proofs.Canonical.{generated-points, is_in_order-parts, is_in_order-upward, canonical-upward, in-available, systems-sound}
use Rattle.system_theory.proofs.Codes.{codes-apart, codes-rise, codes-sound, codes-complete, codes-different}
use Rattle.system_theory.proofs.Firsts.{pieces-start, sizes-start}

-- what follows among the components that may stand to the right of p follows among all of them
available-whole : (p c : Component) (s : ℕ) {r : Option Component} → Within c (available p s) r → Within c (generation s) r
unfolding available
available-whole p c s i =
    by-test (eqb (points p) s) (λ t. within-from compare_component p (generation s) (rw t at i)) (λ t. rw t at i)

-- so what follows c there is its successor
available-within : (p c : Component) → valid_component c ≡ true → at_most compare_generated p c ≡ true → Within c (available p (points c)) (successor c)
available-within p c v h =
    let i = in_within (in-available p c v h) in
    let e : successor c ≡ i.0 = within-unique (generation-once (points c)) (successor-within c v) (available-whole p c (points c) i.1) in
    rw e i.1

-- what follows S among the systems with its sizes
bump-within : (p : Component) (S : System) → is_in_order p S ≡ true → Within S (systems p (map points S)) (bump S)
unfolding systems bump
bump-within p [] e = within-head [] []
bump-within p (c ∷ S) e =
    let r = is_in_order-parts p c S e in
    within-gather (λ d. map (d ∷◌) (systems d (map points S))) (λ d. d ∷ fills d (map points S))
    (pieces-start p (points c) (map points S) (generated-points p c r.1) (points-positive c r.0) (is_in_order-upward c S r.2))
    (available-within p c r.0 r.1)
    (within-map (c ∷◌) (bump-within c S r.2))

-- what follows S among all codes
pub step-within : (S : System) → canonical S ≡ true → Within S (codes (weight S)) (step S)
unfolding codes canonical step
step-within S e =
    let w : sum (map points S) ≡ weight S = total-map (λ b. b) points S in
    let i = sizes-within (weight S) 1 (omega arith) (canonical-upward S e) (omega arith) in
    within-gather (systems []) (map cycle)
    (λ l m. sizes-start (sizes-sound (weight S) 1 (weight S) m).0)
    (rw w at i)
    (bump-within [] S e)

-- the step gives what follows in the list of all codes
pub step_is : (S : System) → canonical S ≡ true → next compare_system S (codes (weight S)) ≡ step S
step_is S e = within-next (lawful-decides compare_system-lawful) (codes-different (weight S)) (step-within S e)

-- With these a loop can take one step after another: the step keeps canonical and the number of points, and with the same sizes it keeps the sizes.
pub bump-keeps : (S R : System) → canonical S ≡ true → bump S ≡ some R → (canonical R ≡ true) × (map points R ≡ map points S)
unfolding canonical
bump-keeps S R e f =
    systems-sound [] (map points S) (upward-from (omega arith) (canonical-upward S e)) (within-some-in (rw f at (bump-within [] S e)))

pub step_keeps : (S R : System) → canonical S ≡ true → step S ≡ some R → (canonical R ≡ true) × (weight R ≡ weight S)
step_keeps S R e f = codes-sound (weight S) R (within-some-in (rw f at (step-within S e)))

-- and to the least one: whatever is greater than S is that or greater than that
pub step-least : (S R T : System) → canonical S ≡ true → step S ≡ some R → canonical T ≡ true → weight T ≡ weight S → compare_codes S T ≡ Ordering.lt
    → (T ≡ R) ⊎ (compare_codes R T ≡ Ordering.lt)
step-least S R T e f g h k =
    let c = within-some (rw f at (step-within S e)) in
    neighbours-gap codes-apart c.0 c.1 (rw c.2 at (codes-rise (weight S))) (in_list c.2 (rw h at (codes-complete T g))) k

-- where the step gives none, nothing is greater
pub step-last : (S T : System) → canonical S ≡ true → step S ≡ none → canonical T ≡ true → weight T ≡ weight S → compare_codes S T ≡ Ordering.lt → ⊥
step-last S T e f g h k =
    let c = within-last (rw f at (step-within S e)) in
    last-greatest codes-apart c.0 (rw c.1 at (codes-rise (weight S))) (in_list c.1 (rw h at (codes-complete T g))) k
