-- What stands before a code in the list of all codes is the step back: it and the step undo each other, and it gives none exactly for the first code.
use mathlib.Core.Path.{◌≡◌, ap, sym, subst}
use mathlib.Core.List.{[], ◌∷◌, map, reverse}
use mathlib.Core.Bool.{true, false}
use mathlib.Core.Option.{none, some}
use Prim.Native.Nat.{ℕ, ◌<◌}
use native.Mathlib.Omega.{arith}
use lib.Dec.{eqb}
use borrow.Author.Tests.{eqb-true, eqb-false}
use Rattle.lists.specs.Order.{at_most, same}
use Rattle.lists.specs.Select.{first, previous}
use Rattle.lists.proofs.Tests.{by-test, is_false}
use Rattle.lists.proofs.Comparison.{same_true}
use Rattle.lists.proofs.Permute.{total-map}
use Rattle.lists.proofs.Members.{lawful-decides}
use Rattle.lists.proofs.Follow.{Within, within-head, within_in, within-next, within-unique, within-some-in}
use Rattle.lists.proofs.Reversed.{of_reverse, nodup_reverse, reverse-neighbours, of-reverse-neighbours, reverse-first, of-reverse-first, within-reverse-from, within-reverse-map, within-reverse-gather}
use Rattle.patterns.specs.Component.{Component, points, compare_component, valid_component}
use Rattle.patterns.specs.System.{System, weight, compare_generated, is_in_order, canonical, available, systems, codes, compare_system}
use Rattle.patterns.proofs.Trees.{compare_component-lawful, compare_system-lawful}
use Rattle.component_theory.proofs.Generation.{generation-complete, generation-once}
use Rattle.component_theory.proofs.Successor.{predecessor-within}
use Rattle.patterns.proofs.Rotations.{points-positive}
use Rattle.system_theory.specs.Step.{step}
use Rattle.system_theory.specs.StepBack.{lower, lasts, fall, step_back_of}
use Rattle.system_theory.proofs.Sizes.{upward-from, sum, sizes-sound}
use Rattle.system_theory.proofs.SizesBack.{sizes-back}
use Rattle.system_theory.proofs.Canonical.{generated-points, is_in_order-parts, is_in_order-upward, canonical-upward, in-available}
use Rattle.system_theory.proofs.Codes.{codes-sound, codes-different}
use Rattle.system_theory.proofs.Lasts.{pieces_end, systems-last}
use Rattle.system_theory.proofs.Step.{step-within, step_keeps}

-- what stands before c among the components that may stand to the right of p
available-back : (p c : Component) → (0 < points p → valid_component p ≡ true) → valid_component c ≡ true → at_most compare_generated p c ≡ true
    → Within c (reverse (available p (points c))) (lower p c)
unfolding available
available-back p c v u h =
    by-test (eqb (points p) (points c))
    (λ t.
    let e : points p ≡ points c = eqb-true (points p) (points c) t in
    let k = points-positive c u in
    rw t
    (within-reverse-from (lawful-decides compare_component-lawful) (generation-once (points c)) (rw e at (generation-complete p (v (omega arith))))
    (rw t at (in-available p c u h)) (predecessor-within c u)))
    (λ t.
    let n = eqb-false (points p) (points c) t in
    let d : same compare_component p c ≡ false = is_false (same compare_component p c) (λ i. n (ap points (same_true compare_component-lawful p c i))) in
    rw (t, d) (predecessor-within c u))

-- what stands before S among the systems with its sizes
pub fall-within : (p : Component) (S : System) → (0 < points p → valid_component p ≡ true) → is_in_order p S ≡ true → Within S (reverse (systems p (map points S))) (fall p S)
unfolding systems fall
fall-within p [] v e = within-head [] []
fall-within p (c ∷ S) v e =
    let r = is_in_order-parts p c S e in
    within-reverse-gather (λ d. map (d ∷◌) (systems d (map points S))) (λ d. d ∷ lasts (map points S))
    (pieces_end p (points c) (map points S) (systems-last (map points S)) (generated-points p c r.1) (points-positive c r.0) (is_in_order-upward c S r.2))
    (available-back p c v r.0 r.1)
    (within-reverse-map (c ∷◌) (systems c (map points S)) (fall-within c S (λ k. r.0) r.2))

-- and where S is canonical, among the canonical ones
fall-canonical : (S : System) → canonical S ≡ true → Within S (reverse (systems [] (map points S))) (fall [] S)
unfolding canonical
fall-canonical S e = fall-within [] S (λ k. absurd (omega arith)) e

-- what stands before S among all codes
pub step_back_of-within : (S : System) → canonical S ≡ true → Within S (reverse (codes (weight S))) (step_back_of S)
unfolding codes step_back_of
step_back_of-within S e =
    let w : sum (map points S) ≡ weight S = total-map (λ b. b) points S in
    let i = sizes-back (weight S) 1 (omega arith) (canonical-upward S e) (omega arith) in
    within-reverse-gather (systems []) lasts
    (λ l m. let u = (sizes-sound (weight S) 1 (weight S) m).0 in systems-last l [] (λ k. absurd (omega arith)) (upward-from (omega arith) u) u)
    (rw w at i)
    (fall-canonical S e)

-- the step back gives what stands before in the list of all codes
pub step_back_of-is : (S : System) → canonical S ≡ true → previous compare_system S (codes (weight S)) ≡ step_back_of S
step_back_of-is S e = within-next (lawful-decides compare_system-lawful) (nodup_reverse (codes-different (weight S))) (step_back_of-within S e)

-- It keeps canonical and the number of points.
pub step_back_of-keeps : (S R : System) → canonical S ≡ true → step_back_of S ≡ some R → (canonical R ≡ true) × (weight R ≡ weight S)
step_back_of-keeps S R e f = codes-sound (weight S) R (of_reverse (codes (weight S)) (within-some-in (rw f at (step_back_of-within S e))))

-- The step and the step back undo each other.

pub step_back : (S R : System) → canonical S ≡ true → step S ≡ some R → step_back_of R ≡ some S
step_back S R e f =
    let k = step_keeps S R e f in
    let n : weight R ≡ weight S = k.1 in
    within-unique (nodup_reverse (codes-different (weight R))) (step_back_of-within R k.0)
    (subst (λ m. Within R (reverse (codes m)) (some S)) (sym n) (reverse-neighbours (rw f at (step-within S e))))

pub back_step : (S R : System) → canonical S ≡ true → step_back_of S ≡ some R → step R ≡ some S
back_step S R e f =
    let k = step_back_of-keeps S R e f in
    let n : weight R ≡ weight S = k.1 in
    within-unique (codes-different (weight R)) (step-within R k.0)
    (subst (λ m. Within R (codes m) (some S)) (sym n) (of-reverse-neighbours (codes (weight S)) (rw f at (step_back_of-within S e))))

-- nothing comes before exactly the first
pub step_back_of-first : (S : System) → canonical S ≡ true → step_back_of S ≡ none → first (codes (weight S)) ≡ some S
step_back_of-first S e f = of-reverse-first (codes (weight S)) (rw f at (step_back_of-within S e))

pub first-step_back_of : (S : System) (n : ℕ) → first (codes n) ≡ some S → step_back_of S ≡ none
first-step_back_of S n f =
    let i = reverse-first (codes n) f in
    let k = codes-sound n S (of_reverse (codes n) (within_in i)) in
    within-unique (nodup_reverse (codes-different n)) (subst (λ m. Within S (reverse (codes m)) (step_back_of S)) k.1 (step_back_of-within S k.0)) i
