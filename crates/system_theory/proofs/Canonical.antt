-- Canonical systems: what the test says, and the members of the lists that the list of all codes is made of.
use mathlib.Core.Path.{◌≡◌, refl, ap, ap₂, sym, ◌∙◌}
use mathlib.Core.List.{List, [], ◌∷◌, ◌++◌, map}
use mathlib.Core.Bool.{true, ◌&&◌}
use Prim.Native.Nat.{Ordering}
use Prim.Native.Nat.{ℕ, ◌≤◌, ◌<◌, compare}
use native.Mathlib.Omega.{arith}
use lib.Dec.{is_le, leb, eqb}
use borrow.Author.Tests.{le-leb, leb-true, leb-false, eqb-true, eqb-false}
use Rattle.lists.specs.Order.{then, at_most, lex}
use Rattle.lists.specs.Select.{each, place}
use Rattle.lists.proofs.Tests.{◌∈◌, by-test, either, no_both, and-true, each-true}
use Rattle.lists.proofs.Comparison.{then-eq, at_most-trans, compare-lt, compare-gt, compare_self}
use Rattle.lists.proofs.Lex.{lex-compare-lawful}
use Rattle.lists.proofs.Sorting.{Sorted, sorted_nil, sorted_cons}
use Rattle.lists.proofs.Members.{lawful-decides, in_head, in-cons-cases, in-single, in_map, of_map, in-gather, of-gather, not-in-nil}
use Rattle.patterns.specs.Component.{Component, points, compare_component, valid_component}
use Rattle.patterns.specs.Generation.{generation}
use Rattle.patterns.specs.System.{System, generation_place, compare_generated, is_in_order, canonical, available, systems}
use Rattle.patterns.proofs.Trees.{compare_component-lawful}
use Rattle.patterns.proofs.Rotations.{points-positive}
use Rattle.component_theory.proofs.Generation.{generation-sound, generation-complete, generation-once}
use Rattle.lists.proofs.Neighbours.{in-from, of-from}
use Rattle.system_theory.proofs.Sizes.{Upward, upward_nil, upward_cons, upward-head, upward-tail}

-- Order of components: by points, then by place, so by the list of these two numbers.

abbrev pub generated_key : Component → List ℕ
generated_key c = points c ∷ generation_place c ∷ []

pub compare_generated-key : (c d : Component) → compare_generated c d ≡ lex compare (generated_key c) (generated_key d)
unfolding compare_generated
compare_generated-key c d = ap (then (compare (points c) (points d))) (sym (then-eq (compare (generation_place c) (generation_place d))))

pub generated-trans : (c d e : Component) → at_most compare_generated c d ≡ true → at_most compare_generated d e ≡ true → at_most compare_generated c e ≡ true
generated-trans c d e h k =
    ap is_le (compare_generated-key c e)
    ∙ at_most-trans lex-compare-lawful (generated_key c) (generated_key d) (generated_key e)
    (sym (ap is_le (compare_generated-key c d)) ∙ h)
    (sym (ap is_le (compare_generated-key d e)) ∙ k)

-- fewer points come before
pub generated-fewer : (c d : Component) → points c < points d → compare_generated c d ≡ Ordering.lt
unfolding compare_generated
generated-fewer c d h = rw (compare-lt (points c) (points d) h)

-- with equal points the places decide
pub generated-place : (c d : Component) → points c ≡ points d → compare_generated c d ≡ compare (place compare_component c (generation (points d))) (place compare_component d (generation (points d)))
unfolding compare_generated generation_place
generated-place c d e = rw (e, compare_self (points d))

-- what does not come after has no more points
pub generated-points : (c d : Component) → at_most compare_generated c d ≡ true → points c ≤ points d
unfolding compare_generated
generated-points c d h =
    by-test (leb (points c) (points d))
    (λ t. leb-true (points c) (points d) t)
    (λ t. no_both h (rw (compare-gt (points c) (points d) (leb-false (points c) (points d) t))))

-- The test of a system, one component more.

pub is_in_order-parts : (p c : Component) (S : System) → is_in_order p (c ∷ S) ≡ true
    → (valid_component c ≡ true) × (at_most compare_generated p c ≡ true) × (is_in_order c S ≡ true)
unfolding is_in_order
is_in_order-parts p c S e =
    let r = and-true (valid_component c && at_most compare_generated p c) (is_in_order c S) e in
    let q = and-true (valid_component c) (at_most compare_generated p c) r.0 in
    (q.0, q.1, r.1)

pub is_in_order-from : (p c : Component) (S : System) → valid_component c ≡ true → at_most compare_generated p c ≡ true → is_in_order c S ≡ true → is_in_order p (c ∷ S) ≡ true
unfolding is_in_order
is_in_order-from p c S v h e = rw (v, h, e)

pub canonical-cons : (c : Component) (S : System) → canonical (c ∷ S) ≡ true → (valid_component c ≡ true) × (is_in_order c S ≡ true)
unfolding canonical
canonical-cons c S e = let r = is_in_order-parts [] c S e in (r.0, r.2)

-- the first components of a system in order are in order
is_in_order-front : (p : Component) (S R : System) → is_in_order p (S ++ R) ≡ true → is_in_order p S ≡ true
unfolding is_in_order
is_in_order-front p [] R e = refl
is_in_order-front p (c ∷ S) R e = let r = is_in_order-parts p c (S ++ R) e in is_in_order-from p c S r.0 r.1 (is_in_order-front c S R r.2)

pub canonical-front : (S R : System) → canonical (S ++ R) ≡ true → canonical S ≡ true
unfolding canonical
canonical-front S R e = is_in_order-front [] S R e

-- what stands to the right of p in order comes no earlier
is_in_order-member : (p : Component) {S : System} {c : Component} → is_in_order p S ≡ true → c ∈ S → (valid_component c ≡ true) × (at_most compare_generated p c ≡ true)
is_in_order-member p {S = []} e m = not-in-nil m
is_in_order-member p {S = d ∷ S} {c} e m =
    let r = is_in_order-parts p d S e in
    either (in-cons-cases m)
    (λ q. rw q (r.0, r.1))
    (λ k. let s = is_in_order-member d r.2 k in (s.0, generated-trans p d c r.1 s.1))

is_in_order-sorted : (p : Component) (S : System) → is_in_order p S ≡ true → Sorted compare_generated S
is_in_order-sorted p [] e = sorted_nil
is_in_order-sorted p (c ∷ S) e =
    let r = is_in_order-parts p c S e in
    sorted_cons (each-true (at_most compare_generated c) S (λ d m. (is_in_order-member c r.2 m).1)) (is_in_order-sorted c S r.2)

-- canonical: every component is valid, and none comes before one that stands to its left
pub canonical-parts : (S : System) → canonical S ≡ true → (each valid_component S ≡ true) × (Sorted compare_generated S)
unfolding canonical
canonical-parts S e = (each-true valid_component S (λ c m. (is_in_order-member [] e m).0), is_in_order-sorted [] S e)

-- the sizes of a system in order do not decrease
pub is_in_order-upward : (p : Component) (S : System) → is_in_order p S ≡ true → Upward (points p) (map points S)
is_in_order-upward p [] e = upward_nil
is_in_order-upward p (c ∷ S) e = let r = is_in_order-parts p c S e in upward_cons (generated-points p c r.1) (is_in_order-upward c S r.2)

pub canonical-upward : (S : System) → canonical S ≡ true → Upward 1 (map points S)
canonical-upward [] e = upward_nil
canonical-upward (c ∷ S) e = let r = canonical-cons c S e in upward_cons (points-positive c r.0) (is_in_order-upward c S r.1)

-- Members of the lists.

-- the components of s points that may stand to the right of p
pub in-available : (p c : Component) → valid_component c ≡ true → at_most compare_generated p c ≡ true → c ∈ available p (points c)
unfolding available
in-available p c v h =
    by-test (eqb (points p) (points c))
    (λ t. rw t
    (in-from (lawful-decides compare_component-lawful) p (generation-complete c v)
    (leb-true (place compare_component p (generation (points c))) (place compare_component c (generation (points c)))
    (sym (ap is_le (generated-place p c (eqb-true (points p) (points c) t))) ∙ h))))
    (λ t. rw t (generation-complete c v))

pub of-available : (p : Component) (s : ℕ) {c : Component} → points p ≤ s → c ∈ available p s
    → (valid_component c ≡ true) × (points c ≡ s) × (at_most compare_generated p c ≡ true)
unfolding available
of-available p s {c} h m =
    by-test (eqb (points p) s)
    (λ t.
    let r = of-from (lawful-decides compare_component-lawful) p (generation-once s) (rw t at m) in
    let g = generation-sound s c r.0 in
    let q : points c ≡ s = g.1 in (
      g.0,
      q,
      ap is_le (generated-place p c (eqb-true (points p) s t ∙ sym q))
          ∙ le-leb (place compare_component p (generation (points c))) (place compare_component c (generation (points c))) (rw q r.1),
    ))
    (λ t.
    let g = generation-sound s c (rw t at m) in
    let n = eqb-false (points p) s t in
    let q : points p < points c = omega (arith, g.1) in
    (g.0, g.1, ap is_le (generated-fewer p c q)))

-- the systems with these sizes to the right of p: those in order
pub systems-sound : (p : Component) (sizes : List ℕ) {S : System} → Upward (points p) sizes → S ∈ systems p sizes → (is_in_order p S ≡ true) × (map points S ≡ sizes)
unfolding systems is_in_order
systems-sound p [] u m = rw (in-single m) (refl, refl)
systems-sound p (s ∷ sizes) {S} u m =
    let r = of-gather (λ c. map (c ∷◌) (systems c sizes)) (available p s) m in
    let c : Component = r.0 in
    let q = of_map (c ∷◌) (systems c sizes) r.2 in
    let a = of-available p s (upward-head u) r.1 in
    let e : points c ≡ s = a.1 in
    let i = systems-sound c sizes {S = q.0} (rw e (upward-tail u)) q.1 in
    rw q.2 (is_in_order-from p c q.0 a.0 a.2 i.0, ap₂ ◌∷◌ e i.1)

pub systems-complete : (p : Component) (S : System) → is_in_order p S ≡ true → S ∈ systems p (map points S)
unfolding systems
systems-complete p [] e = in_head
systems-complete p (c ∷ S) e =
    let r = is_in_order-parts p c S e in
    in-gather (λ d. map (d ∷◌) (systems d (map points S))) {x = c} (in-available p c r.0 r.1) (in_map (c ∷◌) (systems-complete c S r.2))
