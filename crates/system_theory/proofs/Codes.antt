-- The list of all codes: it rises in the published order, so nothing stands in it twice, and its members are exactly the canonical systems of n points.
use mathlib.Core.Path.{◌≡◌, ap, ap₂, sym, ◌∙◌}
use mathlib.Core.List.{List, [], ◌∷◌, map}
use mathlib.Core.Bool.{true}
use Prim.Native.Nat.{Ordering}
use Prim.Native.Nat.{ℕ, compare}
use native.Mathlib.Omega.{arith}
use lib.Dec.{eqb}
use Rattle.lists.specs.Order.{then, lex}
use Rattle.lists.proofs.Tests.{◌∈◌, by-test}
use Rattle.lists.proofs.Comparison.{Lawful, opposite, lt-asymmetric}
use Rattle.lists.proofs.Lex.{lex-lawful, lex-compare-lawful, lex-same, lex_map, lex-cons-lt, lex-cons-eq}
use Rattle.lists.proofs.Permute.{total-map}
use Rattle.lists.proofs.Members.{NoDup, of_map, in-gather, of-gather}
use Rattle.lists.proofs.Rising.{Rising, rising-single, rising-nodup, rising-map, rising-gather-rising}
use Rattle.patterns.specs.Component.{Component, points, compare_component}
use Rattle.patterns.specs.System.{System, weight, compare_generated, canonical, available, systems, codes, size_lists, compare_codes}
use Rattle.lists.proofs.RisingPlaces.{rising-change}
use Rattle.component_theory.proofs.Paths.{generated-self, generated-rises}
use Rattle.lists.proofs.Neighbours.{rising-from}
use Rattle.system_theory.proofs.Sizes.{upward-from, sum, sizes-sound, sizes-complete, sizes-rise}
use Rattle.system_theory.proofs.Canonical.{generated_key, compare_generated-key, canonical-upward, systems-sound, systems-complete}

-- the numbers that it compares
abbrev code_key : System → List (List ℕ)
code_key S = map points S ∷ map generated_key S

compare_codes-key : (S R : System) → compare_codes S R ≡ lex (lex compare) (code_key S) (code_key R)
unfolding compare_codes
compare_codes-key S R =
    ap (then (lex compare (map points S) (map points R)))
    (lex-same compare_generated (λ c d. lex compare (generated_key c) (generated_key d)) compare_generated-key S R
    ∙ sym (lex_map (lex compare) generated_key S R))

keys-lawful : Lawful (lex (lex compare))
keys-lawful = lex-lawful lex-compare-lawful

-- the comparison of a system with itself, and turned
pub codes-self : (S : System) → compare_codes S S ≡ Ordering.eq
codes-self S = compare_codes-key S S ∙ keys-lawful.self (code_key S)

pub codes-turned : (S R : System) → compare_codes R S ≡ opposite (compare_codes S R)
codes-turned S R = compare_codes-key R S ∙ keys-lawful.turned (code_key S) (code_key R) ∙ ap opposite (sym (compare_codes-key S R))

-- no system comes before one that comes before it
pub codes-apart : (S R : System) → compare_codes S R ≡ Ordering.lt → compare_codes R S ≡ Ordering.lt → ⊥
codes-apart S R e f = lt-asymmetric keys-lawful (code_key S) (code_key R) (sym (compare_codes-key S R) ∙ e) (sym (compare_codes-key R S) ∙ f)

-- smaller size lists come first
pub codes-sizes : (S R : System) → lex compare (map points S) (map points R) ≡ Ordering.lt → compare_codes S R ≡ Ordering.lt
unfolding compare_codes
codes-sizes S R e = rw e

-- among equal size lists the components decide
pub codes-components : (S R : System) → map points S ≡ map points R → compare_codes S R ≡ lex compare_generated S R
unfolding compare_codes
codes-components S R e = rw (e, lex-compare-lawful.self (map points R))

-- the components that may stand to the right of p rise in generation order
pub available-rise : (p : Component) (s : ℕ) → Rising compare_generated (available p s)
unfolding available
available-rise p s = by-test (eqb (points p) s) (λ t. rw t (rising-from compare_component p (generated-rises s))) (λ t. rw t (generated-rises s))

-- the systems with these sizes rise, component by component
pub systems-rise : (p : Component) (sizes : List ℕ) → Rising (lex compare_generated) (systems p sizes)
unfolding systems
systems-rise p [] = rising-single []
systems-rise p (s ∷ sizes) =
    rising-gather-rising (λ c. map (c ∷◌) (systems c sizes)) (available-rise p s)
    (λ c d i j h u v m k.
    let q = of_map (c ∷◌) (systems c sizes) m in
    let r = of_map (d ∷◌) (systems d sizes) k in
    ap₂ (lex compare_generated) q.2 r.2 ∙ lex-cons-lt compare_generated c d q.0 r.0 h)
    (λ c i. rising-map (c ∷◌) (λ S R m k h. lex-cons-eq compare_generated c c S R (generated-self c) ∙ h) (systems-rise c sizes))

-- the systems with a given size list have these sizes
pub sizes-of : (n : ℕ) {sizes : List ℕ} {S : System} → sizes ∈ size_lists n 1 n → S ∈ systems [] sizes → (canonical S ≡ true) × (map points S ≡ sizes)
unfolding canonical
sizes-of n {sizes} i m = systems-sound [] sizes (upward-from (omega arith) (sizes-sound n 1 n i).0) m

-- the list of all codes is strictly increasing in the published order
pub codes-rise : (n : ℕ) → Rising compare_codes (codes n)
unfolding codes
codes-rise n =
    rising-gather-rising (systems []) (sizes-rise n 1 n)
    (λ l m i j h S R p q. codes-sizes S R (ap₂ (lex compare) (sizes-of n i p).1 (sizes-of n j q).1 ∙ h))
    (λ l i. rising-change (systems-rise [] l) (λ S R p q h. codes-components S R ((sizes-of n i p).1 ∙ sym (sizes-of n i q).1) ∙ h))

-- no code stands twice
pub codes-different : (n : ℕ) → NoDup (codes n)
codes-different n = rising-nodup (λ S e. codes-apart S S e e) (codes-rise n)

-- every member is canonical and has n points
pub codes-sound : (n : ℕ) (S : System) → S ∈ codes n → (canonical S ≡ true) × (weight S ≡ n)
unfolding codes
codes-sound n S m =
    let r = of-gather (systems []) (size_lists n 1 n) m in
    let q = sizes-of n r.1 r.2 in
    (q.0, sym (total-map (λ b. b) points S) ∙ ap sum q.1 ∙ (sizes-sound n 1 n r.1).1)

-- every canonical system is there
pub codes-complete : (S : System) → canonical S ≡ true → S ∈ codes (weight S)
unfolding codes canonical
codes-complete S e =
    let w : sum (map points S) ≡ weight S = total-map (λ b. b) points S in
    let i = sizes-complete (weight S) 1 (omega arith) (canonical-upward S e) (omega arith) in
    in-gather (systems []) {x = map points S} (rw w at i) (systems-complete [] S e)
