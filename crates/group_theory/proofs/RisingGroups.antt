-- Groups that rise strictly: they are the groups of what they write out, which is canonical, and the groups of every canonical system rise.
use mathlib.Core.Path.{◌≡◌, refl, ap, sym, ◌∙◌}
use mathlib.Core.Bool.{true, false, not, ◌&&◌}
use mathlib.Core.List.{List, [], ◌∷◌, ◌++◌}
use Prim.Native.Nat.{ℕ, zero, suc, ◌<◌}
use native.Mathlib.Omega.{arith}
use lib.Dec.{is_le, eqb}
use lib.ListN.{length, replicate}
use borrow.Author.Tests.{eq-eqb, eqb-true}
use Rattle.lists.specs.Order.{at_most}
use Rattle.lists.proofs.Tests.{by-test, either, no_both, is_false, not-of-true, same_tests, and-true, true-and}
use Rattle.lists.proofs.Comparison.{at_most-turned, at_most-anti, eq-of-path}
use Rattle.lists.proofs.Lex.{lex-compare-lawful}
use Rattle.patterns.specs.Component.{Component, valid_component}
use Rattle.patterns.specs.System.{System, compare_generated, is_in_order, canonical}
use Rattle.patterns.proofs.Rotations.{points-positive}
use Rattle.component_theory.proofs.Paths.{generated-equal, generated-self}
use Rattle.system_theory.proofs.Canonical.{generated_key, compare_generated-key, generated-points, is_in_order-parts, is_in_order-from, canonical-cons}
use Rattle.group_theory.specs.Groups.{Group, copies_of, expand, joined, groups, rising}
use Rattle.group_theory.proofs.Groups.{counted, counted-head, counted-tail, joined-cases, joined-again, groups-apart, merged-shorter}

-- what does not come before or with p has p before it
generated-turned : (c p : Component) → at_most compare_generated c p ≡ false → at_most compare_generated p c ≡ true
generated-turned c p e =
    ap is_le (compare_generated-key p c)
    ∙ at_most-turned lex-compare-lawful (generated_key c) (generated_key p) (sym (ap is_le (compare_generated-key c p)) ∙ e)

-- valid components of which neither comes before the other are equal
generated-anti : (c d : Component) → valid_component c ≡ true → valid_component d ≡ true → at_most compare_generated c d ≡ true → at_most compare_generated d c ≡ true
    → c ≡ d
generated-anti c d v w h k =
    let e : generated_key c ≡ generated_key d =
    at_most-anti lex-compare-lawful (generated_key c) (generated_key d) (sym (ap is_le (compare_generated-key c d)) ∙ h) (sym (ap is_le (compare_generated-key d c)) ∙ k) in
    generated-equal c d v w (compare_generated-key c d ∙ eq-of-path lex-compare-lawful e)

-- The test, one group more.

pub rising-parts : (p : Component) (g : Group) (G : List Group) → rising p (g ∷ G) ≡ true
    → (valid_component g.component ≡ true) × (at_most compare_generated g.component p ≡ false) × (rising g.component G ≡ true)
unfolding rising
rising-parts p g G e =
    let r = and-true (valid_component g.component && not (at_most compare_generated g.component p)) (rising g.component G) e in
    let q = and-true (valid_component g.component) (not (at_most compare_generated g.component p)) r.0 in
    (q.0, not-of-true (at_most compare_generated g.component p) q.1, r.1)

rising-from : (p : Component) (g : Group) (G : List Group) → valid_component g.component ≡ true → at_most compare_generated g.component p ≡ false
    → rising g.component G ≡ true → rising p (g ∷ G) ≡ true
unfolding rising
rising-from p g G v h e = rw (v, h, e)

-- c in front of groups that come after it is a group of its own
joined-rising : (c : Component) (G : List Group) → rising c G ≡ true → joined c G ≡ copies_of 1 c ∷ G
joined-rising c G h =
    either (joined-cases c G) (λ e. e) (λ v.
    no_both (ap is_le (generated-self c)) (rising-parts c (copies_of v.0 c) v.1 (ap (rising c) (sym v.2) ∙ h)).1)

-- rising groups are the groups of what they write out
pub groups-expand : (p : Component) (G : List Group) → counted G ≡ true → rising p G ≡ true → groups (expand G) ≡ G
unfolding groups
groups-expand p [] h e = refl
groups-expand p (g ∷ G) h e =
    let r = rising-parts p g G e in
    let k = groups-expand g.component G (counted-tail g G h) r.2 in
    groups-apart g (expand G) (counted-head g G h) (joined-rising g.component (groups (expand G)) (ap (rising g.component) k ∙ r.2)) ∙ ap (g ∷◌) k

-- copies in front of a system in order
copies-order : (q : ℕ) (p c : Component) (S : System) → 0 < q → valid_component c ≡ true → at_most compare_generated p c ≡ true → is_in_order c S ≡ true
    → is_in_order p (replicate q c ++ S) ≡ true
copies-order zero p c S h v k e = absurd (omega arith)
copies-order (suc zero) p c S h v k e = is_in_order-from p c S v k e
copies-order (suc (suc q)) p c S h v k e =
    is_in_order-from p c (replicate (suc q) c ++ S) v k (copies-order (suc q) c c S (omega arith) v (ap is_le (generated-self c)) e)

-- rising groups write out a system in order
pub rising-order : (p : Component) (G : List Group) → counted G ≡ true → rising p G ≡ true → is_in_order p (expand G) ≡ true
unfolding is_in_order
rising-order p [] h e = refl
rising-order p (g ∷ G) h e =
    let r = rising-parts p g G e in
    copies-order g.copies p g.component (expand G) (counted-head g G h) r.0 (generated-turned g.component p r.1)
    (rising-order g.component G (counted-tail g G h) r.2)

-- how many copies there are does not matter
rising-again : (p c : Component) (G : List Group) → rising p (joined c G) ≡ true → rising p (joined c (joined c G)) ≡ true
unfolding rising
rising-again p c G e = let s = joined-again c G in ap (rising p) s.3 ∙ sym (ap (rising p) s.2) ∙ e

-- c, which comes after p, and a system in order to its right
order-rises : (p c : Component) (S : System) → valid_component c ≡ true → at_most compare_generated c p ≡ false → is_in_order c S ≡ true → rising p (groups (c ∷ S)) ≡ true
unfolding groups joined rising
order-rises p c [] v h e = rising-from p (copies_of 1 c) [] v h refl
order-rises p c (d ∷ S) v h e =
    let r = is_in_order-parts c d S e in
    by-test (at_most compare_generated d c)
    (λ t.
    let q : c ≡ d = generated-anti c d v r.0 r.1 t in
    ap (λ x. rising p (joined x (groups (d ∷ S)))) q
    ∙ rising-again p d (groups S) (order-rises p d S r.0 (ap (λ x. at_most compare_generated x p) (sym q) ∙ h) r.2))
    (λ t.
    let k = order-rises c d S r.0 t r.2 in
    ap (rising p) (joined-rising c (groups (d ∷ S)) k) ∙ rising-from p (copies_of 1 c) (groups (d ∷ S)) v h k)

-- a valid component comes after the one of no points
valid-after : (c : Component) → valid_component c ≡ true → at_most compare_generated c [] ≡ false
valid-after c v = is_false (at_most compare_generated c []) (λ t. omega (arith, generated-points c [] t, points-positive c v))

-- the groups of a canonical system rise
pub canonical-rises : (S : System) → canonical S ≡ true → rising [] (groups S) ≡ true
unfolding groups rising
canonical-rises [] e = refl
canonical-rises (c ∷ S) e = let r = canonical-cons c S e in order-rises [] c S r.0 (valid-after c r.0) r.1

-- rising groups write out a canonical system
pub rising-canonical : (G : List Group) → counted G ≡ true → rising [] G ≡ true → canonical (expand G) ≡ true
unfolding canonical
rising-canonical G h e = rising-order [] G h e

-- Groups rise if what they write out is canonical and has as many groups.
pub rising-test : (G : List Group) → counted G ≡ true → rising [] G ≡ (canonical (expand G) && eqb (length (groups (expand G))) (length G))
rising-test G h =
    let n = length (groups (expand G)) in
    same_tests (rising [] G) (canonical (expand G) && eqb n (length G))
    (λ e. true-and (rising-canonical G h e) (eq-eqb n (length G) (ap length (groups-expand [] G h e))))
    (λ e.
    let r = and-true (canonical (expand G)) (eqb n (length G)) e in
    ap (rising []) (sym (merged-shorter G h (eqb-true n (length G) r.1))) ∙ canonical-rises (expand G) r.0)
