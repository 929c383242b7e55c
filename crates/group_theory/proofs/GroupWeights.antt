-- The points of groups: each copy counts.
use mathlib.Core.Path.{◌≡◌, refl}
use mathlib.Core.Bool.{Bool, true}
use mathlib.Core.List.{List, [], ◌∷◌, ◌++◌}
use Prim.Native.Nat.{ℕ, zero, suc, ◌+◌, ◌*◌, ◌≤◌, ◌<◌}
use native.Mathlib.Omega.{arith}
use native.Mathlib.Nat.{suc-mul, mul_comm, le-mul_of_pos_right}
use lib.ListN.{length, replicate}
use Rattle.lists.specs.Select.{each}
use Rattle.lists.proofs.Tests.{each-cons, each-head, each_tail}
use Rattle.patterns.specs.Component.{Component, points, nonempty}
use Rattle.patterns.specs.System.{System, weight}
use Rattle.patterns.proofs.Rotations.{valid-nonempty}
use Rattle.component_theory.proofs.Generation.{length-points}
use Rattle.form_theory.proofs.Readback.{nonempty-length}
use Rattle.group_theory.specs.Groups.{Group, expand, rising}
use Rattle.group_theory.proofs.Groups.{counted, counted-head, counted-tail}
use Rattle.group_theory.proofs.RisingGroups.{rising-parts}

weight-copies : (q : ℕ) (c : Component) (S : System) → weight (replicate q c ++ S) ≡ q * points c + weight S
weight-copies zero c S = omega arith
weight-copies (suc q) c S = omega (arith, suc-mul q (points c), weight-copies q c S)

-- the points of a group and of those after it
pub weight-expand : (g : Group) (G : List Group) → weight (expand (g ∷ G)) ≡ g.copies * points g.component + weight (expand G)
weight-expand g G = weight-copies g.copies g.component (expand G)

-- every group's component has a tree
abbrev pub with_trees : List Group → Bool
with_trees G = each (λ g. nonempty g.component) G

pub trees-head : (g : Group) (G : List Group) → with_trees (g ∷ G) ≡ true → nonempty g.component ≡ true
trees-head g G e = each-head (λ h. nonempty h.component) g G e

pub trees-tail : (g : Group) (G : List Group) → with_trees (g ∷ G) ≡ true → with_trees G ≡ true
trees-tail g G e = each_tail (λ h. nonempty h.component) g G e

-- so it is in groups that rise
pub rising-trees : (p : Component) (G : List Group) → rising p G ≡ true → with_trees G ≡ true
rising-trees p [] e = refl
rising-trees p (g ∷ G) e =
    let r = rising-parts p g G e in
    each-cons (λ h. nonempty h.component) {x = g} G (valid-nonempty g.component r.0) (rising-trees g.component G r.2)

pub nonempty-points : (c : Component) → nonempty c ≡ true → 0 < points c
nonempty-points c e = omega (arith, nonempty-length c e, length-points c)

-- a group has at least as many points as copies, and as its component
pub copies-within : (g : Group) → nonempty g.component ≡ true → g.copies ≤ g.copies * points g.component
copies-within g e = le-mul_of_pos_right g.copies (nonempty-points g.component e)

pub component-within : (g : Group) → 0 < g.copies → points g.component ≤ g.copies * points g.component
component-within g h = omega (arith, le-mul_of_pos_right (points g.component) h, mul_comm (points g.component) g.copies)

-- there are no more groups than points
pub groups-points : (G : List Group) → counted G ≡ true → with_trees G ≡ true → length G ≤ weight (expand G)
groups-points [] h e = omega arith
groups-points (g ∷ G) h e =
    omega (arith, weight-expand g G, counted-head g G h, copies-within g (trees-head g G e), groups-points G (counted-tail g G h) (trees-tail g G e))
