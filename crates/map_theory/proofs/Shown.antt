-- A picture of a map whose shapes are canonical shows the system of the map: the shapes are the system.
use mathlib.Core.Path.{◌≡◌, refl, ap, sym, ◌∙◌}
use mathlib.Core.List.{List, [], ◌∷◌, map, map-map, map-append}
use mathlib.Core.Bool.{true, true≢false}
use Prim.Native.Nat.{ℕ, suc, ◌≤◌, ◌<◌}
use native.Mathlib.Omega.{arith}
use lib.Dec.{leb}
use lib.ListN.{length, length-append}
use Rattle.lists.specs.Sort.{sort}
use Rattle.lists.specs.Select.{keep, each, gather}
use Rattle.lists.proofs.Tests.{◌∈◌, either, no_both, and-true, each_member}
use Rattle.lists.proofs.Permute.{Perm, perm-sym, perm-trans, perm-path, perm-keep, perm-map, perm-length, member-total}
use Rattle.lists.proofs.Members.{in_map, in_moved, in-cons-cases, of-gather}
use Rattle.lists.proofs.Places.{in_split, range_length}
use Rattle.patterns.specs.Tree.{Tree, size, graft, compare_tree, valid_tree}
use Rattle.patterns.specs.Component.{points, least_rotation, valid_component}
use Rattle.patterns.specs.System.{weight, canonical}
use Rattle.patterns.specs.Table.{orbit, on_cycle, hanging, tree_to, tree_at, component_at, leads_cycle, leaders, system_of}
use Rattle.patterns.proofs.Rotations.{least_rotation-append, valid-least_rotation, valid-nonempty, valid-trees}
use Rattle.lists.proofs.Gathering.{map_same, map-gather, keep-gather, gather-single, keep_one, least-member, nodup-piece, of-below}
use Rattle.map_theory.proofs.Pictures.{Plant, shape, root, labels, all_labels, shapes, Picture}
use Rattle.map_theory.proofs.Cycles.{cycle-from, leads-least, least-leads}
use Rattle.map_theory.proofs.Plants.{length-inner}
use Rattle.component_theory.proofs.CanonicalComponents.{canonical-valid}
use Rattle.map_theory.proofs.Ordered.{sort-canonical}
use Rattle.map_theory.proofs.Placed.{root-label, component-nodup, component-roots-nodup, component-fits, inner-off, hanging-inside, Placed, placed-tree, placed_at}

-- a component has as many labels as its shape has points, and a picture as many as its shapes
pub length-labels : (c : List Plant) → length (gather labels c) ≡ points (map shape c)
length-labels [] = refl
length-labels (t ∷ c) = omega (arith, length-append (labels t) (gather labels c), length-inner t, length-labels c)

pub length-all_labels : (pic : List (List Plant)) → length (all_labels pic) ≡ weight (shapes pic)
length-all_labels [] = refl
length-all_labels (c ∷ pic) = omega (arith, length-append (gather labels c) (all_labels pic), length-labels c, length-all_labels pic)

-- a tree has no more points than all of them
pub tree-fits : {pic : List (List Plant)} {c : List Plant} {t : Plant} → c ∈ pic → t ∈ c → size (shape t) ≤ weight (shapes pic)
tree-fits m k = omega (arith, member-total size (in_map shape k), member-total points (in_map (map shape) m))

module _ (n : ℕ) (f : ℕ → ℕ) (pic : List (List Plant)) (p : Picture n f pic) where
  -- the shapes have n points together
  pub picture-weight : weight (shapes pic) ≡ n
  picture-weight = sym (length-all_labels pic) ∙ perm-length p.points ∙ range_length 0 n

  module _ (valid : each valid_component (shapes pic) ≡ true) where
    shape-valid : {c : List Plant} → c ∈ pic → valid_component (map shape c) ≡ true
    shape-valid m = each_member valid_component valid (in_map (map shape) m)

    pub top_placed : {c : List Plant} {t : Plant} → c ∈ pic → t ∈ c → Placed n f t
    top_placed {c} {t} m k =
        record {
          arrows = p.arrows c t m k;
          apart = nodup-piece labels (component-nodup n f pic p m) k;
          hang = hanging-inside n f pic p m k;
          valid = each_member valid_tree (valid-trees (map shape c) (shape-valid m)) (in_map shape k);
        }

    -- the tree at a root is the shape of its plant
    pub tree-shown : {c : List Plant} {t : Plant} → c ∈ pic → t ∈ c → tree_at n f (root t) ≡ shape t
    unfolding tree_at
    tree-shown {c} {t} m k = placed-tree n t (omega (arith, tree-fits m k, picture-weight)) (top_placed m k)

    -- the component at any of its roots is the shape of the component
    pub component-shown : {c : List Plant} {x : ℕ} → c ∈ pic → x ∈ map root c → component_at n f x ≡ map shape c
    unfolding component_at
    component-shown {c} {x} m k =
        let s = in_split k in
        let a = s.0 in
        let b = s.1 in
        let g : ℕ → Tree = tree_at n f in
        let trees : map g (map root c) ≡ map shape c =
        map-map g root c ∙ map_same (λ t. g (root t)) shape c (λ t j. tree-shown m j) in
        ap (λ l. least_rotation (map g l)) (cycle-from n f (map root c) (p.cycles c m) (component-roots-nodup n f pic p m) (component-fits n f pic p m) a b x s.2)
        ∙ ap least_rotation (map-append g (x ∷ b) a)
        ∙ least_rotation-append (map g a) (map g (x ∷ b))
        ∙ ap least_rotation (sym (map-append g a (x ∷ b)) ∙ ap (map g) (sym s.2) ∙ trees)
        ∙ valid-least_rotation (map shape c) (shape-valid m)

    leads-root : {c : List Plant} {y : ℕ} → c ∈ pic → y ∈ gather labels c → leads_cycle n f y ≡ true → y ∈ map root c
    unfolding leads_cycle
    leads-root {c} {y} m k e =
        let r = of-gather labels c k in
        either (in-cons-cases r.2)
        (λ q. in_moved (sym q) (in_map root r.1))
        (λ i. no_both (and-true (on_cycle n f y) (each (leb y) (orbit f n y)) e).0 (inner-off n f pic p m r.1 i))

    -- one point leads each component, and the component there is its shape
    leader-shown : (c : List Plant) → c ∈ pic → map (component_at n f) (keep (leads_cycle n f) (gather labels c)) ≡ map shape c ∷ []
    leader-shown [] m = absurd (true≢false (sym (valid-nonempty [] (shape-valid m))))
    leader-shown (t ∷ c) m =
        let d : List Plant = t ∷ c in
        let r = least-member (root t) (map root c) in
        let x = r.0 in
        let cycle = p.cycles d m in
        let u = component-roots-nodup n f pic p m in
        let w = component-fits n f pic p m in
        let one : keep (leads_cycle n f) (gather labels d) ≡ x ∷ [] =
        keep_one (leads_cycle n f) (component-nodup n f pic p m) (root-label d r.1)
        (least-leads n f (map root d) cycle u w r.1 r.2)
        (λ y k e.
        let i = leads-root m k e in
        let h : y ≤ x = leads-least n f (map root d) cycle u w i e r.1 in
        omega (arith, r.2 y i)) in
        ap (map (component_at n f)) one ∙ ap (λ z. z ∷ []) (component-shown m r.1)

    -- the components of a map, in some order, are the shapes
    pub components-shown : Perm (map (component_at n f) (leaders n f)) (shapes pic)
    unfolding leaders
    components-shown =
        perm-trans (perm-map (component_at n f) (perm-keep (leads_cycle n f) (perm-sym p.points)))
        (perm-path (
        ap (map (component_at n f)) (keep-gather (leads_cycle n f) (gather labels) pic)
        ∙ map-gather (component_at n f) (λ c. keep (leads_cycle n f) (gather labels c)) pic
        ∙ gather-single (λ c. map (component_at n f) (keep (leads_cycle n f) (gather labels c))) (map shape) pic leader-shown))

    -- the tree at a point, without a bound on the steps
    pub tree-equation-shown : (x : ℕ) → x < n → tree_at n f x ≡ graft (sort compare_tree (map (tree_at n f) (hanging n f x)))
    unfolding tree_at tree_to
    tree-equation-shown x h =
        let r = of-gather (gather labels) pic (of-below p.points h) in
        let s = of-gather labels r.0 r.2 in
        let q = placed_at n s.0 (omega (arith, tree-fits r.1 s.1, picture-weight)) (top_placed r.1 s.1) s.2 in
        let b : size (shape q.0) ≤ n = omega (arith, q.2, tree-fits r.1 s.1, picture-weight) in
        let e : tree_to n f n x ≡ shape q.0 = ap (tree_to n f n) q.3 ∙ placed-tree n q.0 (omega arith) q.1 in
        let e' : tree_to n f (suc n) x ≡ shape q.0 = ap (tree_to n f (suc n)) q.3 ∙ placed-tree (suc n) q.0 (omega arith) q.1 in
        e ∙ sym e'

  -- (P) a picture with canonical shapes shows the system
  pub system-shown : canonical (shapes pic) ≡ true → system_of n f ≡ shapes pic
  unfolding system_of
  system-shown e = sort-canonical (shapes pic) e (components-shown (canonical-valid (shapes pic) e))
