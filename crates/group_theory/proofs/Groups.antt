-- Grouping equal neighbours and writing each copy out: the groups of a system written out are the system, and what copies in front do to the groups.
use mathlib.Core.Path.{◌≡◌, refl, ap, sym, ◌∙◌}
use mathlib.Core.Logic.{◌⊎◌, inl, inr}
use mathlib.Core.Bool.{Bool, true}
use mathlib.Core.List.{List, [], ◌∷◌, ◌++◌}
use Prim.Native.Nat.{ℕ, zero, suc, ◌+◌, ◌≤◌, ◌<◌}
use native.Mathlib.Omega.{arith}
use lib.Dec.{ltb}
use lib.ListN.{length, replicate}
use borrow.Author.Tests.{lt-ltb, ltb-true}
use Rattle.lists.specs.Order.{same}
use Rattle.lists.specs.Select.{each}
use Rattle.lists.proofs.Tests.{by-test, either, each-cons, each-head, each_tail}
use Rattle.lists.proofs.Comparison.{same_true, same_self}
use Rattle.patterns.specs.Component.{Component, compare_component}
use Rattle.patterns.specs.System.{System}
use Rattle.patterns.proofs.Trees.{compare_component-lawful}
use Rattle.group_theory.specs.Groups.{Group, copies_of, expand, joined, groups}

-- every group has a copy
abbrev pub counted : List Group → Bool
counted G = each (λ g. ltb 0 g.copies) G

pub counted-head : (g : Group) (G : List Group) → counted (g ∷ G) ≡ true → 0 < g.copies
counted-head g G e = ltb-true 0 g.copies (each-head (λ h. ltb 0 h.copies) g G e)

pub counted-tail : (g : Group) (G : List Group) → counted (g ∷ G) ≡ true → counted G ≡ true
counted-tail g G e = each_tail (λ h. ltb 0 h.copies) g G e

pub counted-cons : (g : Group) (G : List Group) → 0 < g.copies → counted G ≡ true → counted (g ∷ G) ≡ true
counted-cons g G h e = each-cons (λ h. ltb 0 h.copies) {x = g} G (lt-ltb 0 g.copies h) e

-- c in front of a group of copies of c
joined-more : (c : Component) (q : ℕ) (G : List Group) → joined c (copies_of q c ∷ G) ≡ copies_of (suc q) c ∷ G
unfolding joined
joined-more c q G = rw (same_self compare_component-lawful c)

-- what c in front of groups does: a group of its own, or one copy more
pub joined-cases : (c : Component) (G : List Group)
    → (joined c G ≡ copies_of 1 c ∷ G) ⊎ ((q : ℕ) × (H : List Group) × (G ≡ copies_of q c ∷ H) × (joined c G ≡ copies_of (suc q) c ∷ H))
unfolding joined
joined-cases c [] = inl refl
joined-cases c (g ∷ G) =
    by-test (same compare_component c g.component)
    (λ t.
    let e : c ≡ g.component = same_true compare_component-lawful c g.component t in
    inr (g.copies, G, ap (λ d. copies_of g.copies d ∷ G) (sym e), rw t (ap (λ d. copies_of (suc g.copies) d ∷ G) (sym e))))
    (λ t. inl (rw t))

-- either way a group of copies of c stands first
joined-shape : (c : Component) (G : List Group) → (q : ℕ) × (H : List Group) × (joined c G ≡ copies_of (suc q) c ∷ H)
joined-shape c G = either (joined-cases c G) (λ e. (0, G, e)) (λ v. (v.0, v.1, v.3))

-- c twice in front
pub joined-again : (c : Component) (G : List Group) → (q : ℕ) × (H : List Group) × (joined c G ≡ copies_of q c ∷ H) × (joined c (joined c G) ≡ copies_of (suc q) c ∷ H)
joined-again c G = let s = joined-shape c G in (suc s.0, s.1, s.2, ap (joined c) s.2 ∙ joined-more c (suc s.0) s.1)

expand-joined : (c : Component) (G : List Group) → expand (joined c G) ≡ c ∷ expand G
expand-joined c G = either (joined-cases c G) (λ e. ap expand e) (λ v. ap expand v.3 ∙ ap (λ H. c ∷ expand H) (sym v.2))

-- the groups of a system written out are the system
pub expand-groups : (S : System) → expand (groups S) ≡ S
unfolding groups
expand-groups [] = refl
expand-groups (c ∷ S) = expand-joined c (groups S) ∙ ap (c ∷◌) (expand-groups S)

joined-counted : (c : Component) (G : List Group) → counted G ≡ true → counted (joined c G) ≡ true
joined-counted c G h =
    either (joined-cases c G)
    (λ e. ap counted e ∙ counted-cons (copies_of 1 c) G (omega arith) h)
    (λ v. ap counted v.3 ∙ counted-cons (copies_of (suc v.0) c) v.1 (omega arith) (counted-tail (copies_of v.0 c) v.1 (ap counted (sym v.2) ∙ h)))

-- every group of a system has a copy
pub groups-counted : (S : System) → counted (groups S) ≡ true
unfolding groups
groups-counted [] = refl
groups-counted (c ∷ S) = joined-counted c (groups S) (groups-counted S)

-- copies of c in front of a system: the group that one of them makes, with as many copies more
groups-copies : (c : Component) (S : System) (q r : ℕ) (H : List Group) → 0 < q → joined c (groups S) ≡ copies_of (suc r) c ∷ H
    → groups (replicate q c ++ S) ≡ copies_of (q + r) c ∷ H
unfolding groups
groups-copies c S zero r H h e = absurd (omega arith)
groups-copies c S (suc zero) r H h e = let n : 1 + r ≡ suc r = omega arith in rw n e
groups-copies c S (suc (suc q)) r H h e =
    let n : suc (suc q) + r ≡ suc (suc q + r) = omega arith in
    ap (joined c) (groups-copies c S (suc q) r H (omega arith) e) ∙ joined-more c (suc q + r) H ∙ ap (λ m. copies_of m c ∷ H) (sym n)

-- copies that no equal component follows are a group
pub groups-apart : (g : Group) (S : System) → 0 < g.copies → joined g.component (groups S) ≡ copies_of 1 g.component ∷ groups S
    → groups (replicate g.copies g.component ++ S) ≡ g ∷ groups S
groups-apart g S h e =
    let n : g.copies + 0 ≡ g.copies = omega arith in
    groups-copies g.component S g.copies 0 (groups S) h e ∙ ap (λ q. copies_of q g.component ∷ groups S) n

-- Written out, equal groups come together, and then there are fewer.

copies_length : (g : Group) (S : System) → 0 < g.copies → length (groups (replicate g.copies g.component ++ S)) ≡ length (joined g.component (groups S))
copies_length g S h =
    let s = joined-shape g.component (groups S) in
    ap length (groups-copies g.component S g.copies s.0 s.1 h s.2) ∙ ap length (sym s.2)

joined_length : (c : Component) (G : List Group) → length (joined c G) ≤ suc (length G)
joined_length c G = either (joined-cases c G) (λ e. omega (arith, ap length e)) (λ v. omega (arith, ap length v.2, ap length v.3))

groups-shorter : (G : List Group) → counted G ≡ true → length (groups (expand G)) ≤ length G
unfolding groups
groups-shorter [] h = omega arith
groups-shorter (g ∷ G) h =
    omega (arith, copies_length g (expand G) (counted-head g G h), joined_length g.component (groups (expand G)), groups-shorter G (counted-tail g G h))

-- where there are as many as before, none came together
pub merged-shorter : (G : List Group) → counted G ≡ true → length (groups (expand G)) ≡ length G → groups (expand G) ≡ G
unfolding groups
merged-shorter [] h n = refl
merged-shorter (g ∷ G) h n =
    let k = copies_length g (expand G) (counted-head g G h) in
    let few = groups-shorter G (counted-tail g G h) in
    either (joined-cases g.component (groups (expand G)))
    (λ e. groups-apart g (expand G) (counted-head g G h) e ∙ ap (g ∷◌) (merged-shorter G (counted-tail g G h) (omega (arith, ap length e))))
    (λ v. absurd (omega (arith, ap length v.2, ap length v.3)))
