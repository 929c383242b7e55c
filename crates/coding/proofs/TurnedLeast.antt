-- The plants along a cycle, turned to the least rotation of their shapes, are a valid component.
use mathlib.Core.Path.{◌≡◌, refl, ap, ap₂, subst, ◌∙◌}
use mathlib.Core.Bool.{true}
use mathlib.Core.List.{List, [], ◌++◌, map, map-append}
use Prim.Native.Nat.{ℕ, ◌+◌, ◌-◌, ◌≤◌}
use native.Mathlib.Omega.{arith}
use lib.ListN.{length, take, drop}
use Rattle.lists.specs.Order.{at_most}
use Rattle.lists.specs.Blocks.{exchanged}
use Rattle.lists.specs.Select.{each}
use Rattle.lists.proofs.Tests.{each-true}
use Rattle.lists.proofs.Permute.{perm-each-same}
use Rattle.lists.proofs.Members.{of_map}
use Rattle.patterns.specs.Tree.{valid_tree}
use Rattle.patterns.specs.Component.{Component, points, flat, compare_component, nonempty, valid_component}
use Rattle.patterns.specs.Table.{image, cycle_from}
use Rattle.patterns.proofs.Trees.{length-flat, points-append}
use Rattle.patterns.proofs.Rotations.{Rotated, rotated-trans, rotated-perm, rotated-nonempty, valid-from}
use Rattle.map_theory.specs.Plants.{Plant, shape, plant_at, plants_along}
use Rattle.arrangement.specs.Arrangement.{Planted}
use Rattle.rotation.specs.LeastStart.{LeastStart}
use Rattle.coding.specs.Writing.{CycleAsked, ComponentWritten}
use Rattle.map_theory.proofs.PlantAt.{plant_to-shape, tree_to-valid}
use Rattle.map_theory.proofs.Exists.{map-cut}
use Rattle.memory.proofs.Standing.{stands-part}
use Rattle.arrangement.proofs.Planting.{planted-stands, planted-exchanged, planted-trees, planted-labels}

-- a component turned to its least rotation is valid where its trees are
pub least-valid : (c : Component) {r : ℕ} (l : LeastStart c r) → nonempty c ≡ true → each valid_tree c ≡ true → valid_component (l.back ++ l.front) ≡ true
least-valid c l e v =
    let h : Rotated c (l.back ++ l.front) = record { front = l.front; back = l.back; cut = l.cut; joined = refl } in
    valid-from (l.back ++ l.front) (rotated-nonempty h e) (perm-each-same valid_tree (rotated-perm h) ∙ v)
    (λ a b q.
    let s = rotated-trans h (record { front = a; back = b; cut = q; joined = refl }) in
    ap (at_most compare_component (l.back ++ l.front)) s.joined ∙ l.least s.front s.back s.cut)

along-nonempty : (f : List ℕ) (x : ℕ) → nonempty (map shape (plants_along f x)) ≡ true
unfolding cycle_from
along-nonempty f x = refl

along-trees : (f : List ℕ) (x : ℕ) → each valid_tree (map shape (plants_along f x)) ≡ true
along-trees f x =
    each-true valid_tree (map shape (plants_along f x))
    (λ u m.
    let r = of_map shape (plants_along f x) m in
    let s = of_map (plant_at f) (cycle_from (length f) (image f) x) r.1 in
    ap valid_tree (r.2 ∙ ap shape s.2 ∙ plant_to-shape (length f) (image f) (length f) s.0) ∙ tree_to-valid (length f) (image f) (length f) s.0)

module _ {f last before : List ℕ} {x at : ℕ} {d e : List ℕ} (a : CycleAsked f last before x d e at)
    {end : ℕ} {trees labels : List ℕ} (p : Planted (plants_along f x) at d e end trees labels) where
  pub written-bound : (at ≤ end) × (end ≤ length f)
  written-bound = (omega (arith, p.ends), omega (arith, p.ends, a.room))

  -- what stands from at to end
  pub written-part : take (end - at) (drop at trees) ≡ flat (map shape (plants_along f x))
  written-part =
      stands-part end (omega (arith, p.ends, length-flat (map shape (plants_along f x))))
      (planted-stands (omega (arith, written-bound, a.prepared.trees_room)) p)

  module _ {r : ℕ} (l : LeastStart (map shape (plants_along f x)) r) where
    -- the place to turn to lies within
    pub turn-bound : at + r ≤ end
    turn-bound = omega (arith, p.ends, l.place, ap points l.cut, points-append l.front l.back)

    -- both slices may be turned there
    pub turn-trees : (at ≤ at + r) × (at + r ≤ end) × (end ≤ length trees)
    turn-trees =
        let n = planted-trees p (omega (arith, written-bound, a.prepared.trees_room)) in
        (omega arith, turn-bound, omega (arith, written-bound, a.prepared.trees_room))

    pub turn-labels : (at ≤ at + r) × (at + r ≤ end) × (end ≤ length labels)
    turn-labels =
        let n = planted-labels p (omega (arith, written-bound, a.prepared.labels_room)) in
        (omega arith, turn-bound, omega (arith, written-bound, a.prepared.labels_room))

    pub component-written : ComponentWritten f x at d e end (exchanged at (at + r) end trees) (exchanged at (at + r) end labels)
    component-written =
        let s = map-cut shape (plants_along f x) l.front l.back l.cut in
        let front : List Plant = s.0 in
        let back : List Plant = s.1 in
        let q : map shape (back ++ front) ≡ l.back ++ l.front = map-append shape back front ∙ ap₂ ◌++◌ s.4 s.3 in
        record {
          plants = back ++ front;
          front = front;
          back = back;
          cut = s.2;
          joined = refl;
          valid = ap valid_component q ∙ least-valid (map shape (plants_along f x)) l (along-nonempty f x) (along-trees f x);
          planted =
              planted-exchanged [] front back {mid = at} {end = at + r}
              (omega (arith, written-bound, a.prepared.trees_room)) (omega (arith, written-bound, a.prepared.labels_room))
              (omega arith) (omega (arith, l.place, ap points s.3))
              (subst (λ us. Planted us at d e end trees labels) s.2 p);
        }
