-- From the map of a system to any map that has this system there are as many isomorphisms as the system has symmetries.
use mathlib.Core.Path.{◌≡◌, refl, ap, ap₂, sym, ◌∙◌}
use mathlib.Core.Bool.{true, true≢false}
use mathlib.Core.List.{List, [], ◌∷◌, ◌++◌, map, append-nil, append_assoc, head-eq_of_cons-eq, tail-eq_of_cons-eq}
use Prim.Native.Nat.{ℕ, zero, suc, ◌≤◌, ◌<◌}
use native.Mathlib.Omega.{arith}
use lib.ListN.{length}
use Rattle.lists.specs.Select.{keep, each, gather, range}
use Rattle.lists.proofs.Tests.{◌∈◌, each_member}
use Rattle.lists.proofs.Comparison.{compare-lawful}
use Rattle.lists.proofs.Permute.{Perm, perm-sym, perm-trans, perm-path, perm-keep, perm-gather, perm-gather-each, perm-member}
use Rattle.lists.proofs.Sorting.{sort-perm}
use Rattle.lists.proofs.Members.{in_list, in_map, in-gather, of-keep, keep-none}
use Rattle.lists.proofs.Gathering.{keep-gather, gather-single, gather-gather, gather-map, gather-same}
use Rattle.patterns.specs.Tree.{size}
use Rattle.patterns.specs.Component.{valid_component}
use Rattle.patterns.specs.System.{System, weight, compare_generated, canonical}
use Rattle.patterns.specs.Table.{image, is_table, on_cycle, cycle_from, component_at, leaders, system_of, system_of_table}
use Rattle.patterns.specs.MapOf.{map_of}
use Rattle.patterns.specs.Isomorphism.{Isomorphism}
use Rattle.patterns.proofs.Trees.{size-positive, merge-parts}
use Rattle.patterns.proofs.Rotations.{valid-nonempty}
use Rattle.map_theory.specs.Plants.{Plant, tip, join, shape, root, inner, labels, shapes, plant_to}
use Rattle.map_theory.proofs.Pictures.{all_labels, Picture}
use Rattle.map_theory.proofs.Cycles.{cycle-from}
use Rattle.map_theory.proofs.Placed.{component-roots-nodup, component-fits, root-on, inner-off}
use Rattle.component_theory.proofs.CanonicalComponents.{canonical-valid}
use Rattle.map_theory.proofs.Shown.{tree-fits, picture-weight, top_placed}
use Rattle.map_theory.proofs.Leaders.{in-cycle-start, cycle-turn, leaders-nodup, cycles-perm}
use Rattle.map_theory.proofs.Levels.{levels-perm, cycles-level}
use Rattle.map_theory.proofs.PlantAt.{level-labels}
use Rattle.map_theory.proofs.MapOf.{numbered_system, numbered_system-shapes, numbered_system-labels, map_of-picture}
use Rattle.map_theory.proofs.Isomorphisms.{table_below, table-read}
use Rattle.map_theory.proofs.Renamed.{renamed, renamed-shapes, renamed-all_labels, isomorphic-picture}
use Rattle.map_theory.proofs.Labelled.{picture-isomorphism}
use Rattle.counting_theory.specs.Symmetries.{symmetries}
use Rattle.counting_theory.proofs.Exactly.{Exactly, exactly-map}
use Rattle.counting_theory.proofs.WholePlants.{Whole, placed-whole, whole-arrows, whole-labels}
use Rattle.counting_theory.proofs.ShownSystems.{CycleRow, Shown, exactly-shown}

-- a plant is known by its shape and the points that a list begins with
plant-read : (t u : Plant) (r s : List ℕ) → shape t ≡ shape u → labels t ++ r ≡ labels u ++ s → (t ≡ u) × (r ≡ s)
plant-read (tip x) (tip y) r s e k = (ap tip (head-eq_of_cons-eq k), tail-eq_of_cons-eq k)
plant-read (tip x) (join u v) r s e k = absurd (omega (arith, ap size e, size-positive (shape u), size-positive (shape v)))
plant-read (join t w) (tip y) r s e k = absurd (omega (arith, ap size e, size-positive (shape t), size-positive (shape w)))
plant-read (join t w) (join u v) r s e k =
    let both = merge-parts e in
    let first = plant-read t u (labels w ++ r) (labels v ++ s) both.0
    (sym (append_assoc (labels t) (labels w) r) ∙ k ∙ append_assoc (labels u) (labels v) s) in
    let last = plant-read w v r s both.1 first.1 in
    (ap₂ join first.0 last.0, last.1)

-- where things are known by what h says of them and by the numbers g that a list begins with, lists of them are so too
rows-read : {A B : Type 0} (h : A → B) (g : A → List ℕ) → ((x y : A) (r s : List ℕ) → h x ≡ h y → g x ++ r ≡ g y ++ s → (x ≡ y) × (r ≡ s))
    → (l m : List A) (r s : List ℕ) → map h l ≡ map h m → gather g l ++ r ≡ gather g m ++ s → (l ≡ m) × (r ≡ s)
rows-read h g Each-read [] [] r s e k = (refl, k)
rows-read h g Each-read [] (y ∷ m) r s e k = absurd (omega (arith, ap length e))
rows-read h g Each-read (x ∷ l) [] r s e k = absurd (omega (arith, ap length e))
rows-read h g Each-read (x ∷ l) (y ∷ m) r s e k =
    let first = Each-read x y (gather g l ++ r) (gather g m ++ s) (head-eq_of_cons-eq e)
    (sym (append_assoc (g x) (gather g l) r) ∙ k ∙ append_assoc (g y) (gather g m) s) in
    let others = rows-read h g Each-read l m r s (tail-eq_of_cons-eq e) first.1 in
    (ap₂ ◌∷◌ first.0 others.0, others.1)

-- a picture is known by its shapes and its points
pub picture-read : (p q : List (List Plant)) → shapes p ≡ shapes q → all_labels p ≡ all_labels q → p ≡ q
picture-read p q e k = (rows-read (map shape) (gather labels) (rows-read shape labels plant-read) p q [] [] e (ap (λ l. l ++ []) k)).0

-- a whole plant has the points of its root's plant, as far as m steps reach
whole-labels-to : (n : ℕ) (f : ℕ → ℕ) (m : ℕ) {t : Plant} → Whole n f t → size (shape t) ≤ m → Perm (labels t) (labels (plant_to n f m (root t)))
whole-labels-to n f zero {t} w h = absurd (omega (arith, size-positive (shape t)))
whole-labels-to n f (suc k) w h = whole-labels n f k w h

module _ (n : ℕ) (f : ℕ → ℕ) (inside : (x : ℕ) → x < n → f x < n) where
  module _ (pic : List (List Plant)) (p : Picture n f pic) (valid : each valid_component (shapes pic) ≡ true) where
    -- a component of a picture is whole plants along a cycle
    cycle-row : (d : List Plant) → d ∈ pic → CycleRow n f d
    cycle-row [] m = absurd (true≢false (sym (valid-nonempty [] (each_member valid_component valid (in_map (map shape) m)))))
    cycle-row (t ∷ d) m =
        record {
          start = root t;
          roots = sym (cycle-from n f (map root (t ∷ d)) (p.cycles (t ∷ d) m) (component-roots-nodup n f pic p m) (component-fits n f pic p m)
              [] (map root d) (root t) refl ∙ ap (λ l. root t ∷ l) (append-nil (map root d)));
          whole = λ u k. placed-whole n f n u (omega (arith, tree-fits m k, picture-weight n f pic p)) (top_placed n f pic p valid m k);
        }

    -- its points on a cycle are its roots
    cyclic : (d : List Plant) → d ∈ pic → keep (on_cycle n f) (gather labels d) ≡ map root d
    cyclic d m =
        keep-gather (on_cycle n f) labels d
        ∙ gather-single (λ t. keep (on_cycle n f) (labels t)) root d (λ t k.
        rw (root-on n f pic p m (in_map root k)) (ap (λ l. root t ∷ l) (keep-none (on_cycle n f) (inner t) (λ x i. inner-off n f pic p m k i))))

  -- the pictures of a map are what shows a system on all its cycles
  pub picture-shown : (pic : List (List Plant)) → Picture n f pic → each valid_component (shapes pic) ≡ true
      → Shown n f (shapes pic) (gather (cycle_from n f) (leaders n f)) pic
  picture-shown pic p valid =
      record {
        shaped = refl;
        rows = cycle-row pic p valid;
        filled =
            perm-trans (perm-path (
            gather-same (map root) (λ d. keep (on_cycle n f) (gather labels d)) pic (λ d m. sym (cyclic pic p valid d m))
            ∙ sym (keep-gather (on_cycle n f) (gather labels) pic)))
            (perm-trans (perm-keep (on_cycle n f) p.points) (perm-sym (cycles-perm n f inside)));
      }

  pub shown-picture : (pic : List (List Plant)) → weight (shapes pic) ≡ n → Shown n f (shapes pic) (gather (cycle_from n f) (leaders n f)) pic → Picture n f pic
  shown-picture pic w s =
      let g : ℕ → List ℕ = λ x. labels (plant_to n f n x) in
      record {
        points =
            perm-trans (perm-gather-each (gather labels) (λ d. gather g (map root d)) pic (λ d m.
            perm-trans (perm-gather-each labels (λ t. g (root t)) d (λ t k. whole-labels-to n f n ((s.rows d m).whole t k) (omega (arith, tree-fits m k))))
            (perm-path (sym (gather-map g root d)))))
            (perm-trans (perm-path (sym (gather-gather g (map root) pic)))
            (perm-trans (perm-gather g (perm-trans s.filled (cycles-level n f inside)))
            (perm-trans (level-labels n f inside n 0) (levels-perm n f inside (suc n) (omega arith)))));
        arrows = λ d t m k. whole-arrows n f ((s.rows d m).whole t k);
        cycles = λ d m.
            let r = s.rows d m in
            let i : r.start ∈ gather (map root) pic = in-gather (map root) m (in_list (sym r.roots) (in-cycle-start n f r.start)) in
            let on = of-keep (on_cycle n f) (range 0 n) (perm-member compare-lawful (perm-trans s.filled (cycles-perm n f inside)) i) in
            rw r.roots (cycle-turn n f r.start on.1);
      }

-- the components at the leaders of a table are its system, in some order
leaders-components : (n : ℕ) (S : System) (f : List ℕ) → length f ≡ n → system_of_table f ≡ S
    → Perm (map (component_at n (image f)) (leaders n (image f))) S
unfolding system_of_table system_of
leaders-components n S f l e =
    perm-trans (perm-sym (sort-perm compare_generated (map (component_at n (image f)) (leaders n (image f)))))
    (perm-path (ap (λ k. system_of k (image f)) (sym l) ∙ e))

-- an isomorphism from the map of S to f gives a picture of f with shapes S whose points, in written order, are the isomorphism
isomorphism-picture : (n : ℕ) (S : System) (f r : List ℕ) → weight S ≡ n → Isomorphism n (map_of S) f r
    → (pic : List (List Plant)) × Picture n (image f) pic × (shapes pic ≡ S) × (r ≡ all_labels pic)
isomorphism-picture n S f r w i =
    let numbers = numbered_system 0 S in (
      map (map (renamed (image r))) numbers,
      isomorphic-picture n (map_of S) f r numbers (rw w at (map_of-picture S)) i,
      renamed-shapes (image r) numbers ∙ numbered_system-shapes 0 S,
      sym (renamed-all_labels (image r) numbers ∙ ap (map (image r)) (numbered_system-labels 0 S ∙ ap (range 0) w) ∙ table-read n r i.points),
    )

pub exactly-isomorphisms : (n : ℕ) (S : System) (f : List ℕ) → canonical S ≡ true → weight S ≡ n → length f ≡ n → is_table f ≡ true
    → system_of_table f ≡ S → Exactly (Isomorphism n (map_of S) f) (symmetries S)
exactly-isomorphisms n S f c w l t e =
    let inside = table_below n f l t in
    let valid = canonical-valid S c in
    exactly-map {P = Shown n (image f) S (gather (cycle_from n (image f)) (leaders n (image f)))} all_labels
    (λ pic s. rw s.shaped at (picture-isomorphism n f pic (shown-picture n (image f) inside pic (ap weight s.shaped ∙ w) (rw (sym s.shaped) at s))))
    (λ r i.
    let p = isomorphism-picture n S f r w i in
    (p.0, rw p.2 at (picture-shown n (image f) inside p.0 p.1 (ap (each valid_component) p.2 ∙ valid)), p.3))
    (λ p q s u k. picture-read p q (s.shaped ∙ sym u.shaped) k)
    (exactly-shown n (image f) inside S (leaders n (image f)) valid (leaders-nodup n (image f) inside) (λ x m. m) (leaders-components n S f l e))
