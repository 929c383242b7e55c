-- Every map has a picture whose shapes are a canonical system: the plants along the cycles from the leaders, each cycle turned to the least
-- rotation of its shapes, and the cycles sorted by their shapes.
use mathlib.Core.Path.{◌≡◌, refl, ap, ap₂, sym, ◌∙◌}
use mathlib.Core.List.{List, [], ◌∷◌, ◌++◌, map, map-append, head-eq_of_cons-eq, tail-eq_of_cons-eq}
use mathlib.Core.Bool.{true}
use Prim.Native.Nat.{ℕ, suc, ◌<◌}
use native.Mathlib.Omega.{arith}
use lib.ListN.{length}
use Rattle.lists.specs.Sort.{sort}
use Rattle.lists.specs.Select.{gather, range}
use Rattle.lists.proofs.Tests.{◌∈◌, each-true, either}
use Rattle.lists.proofs.Permute.{Perm, perm-path, perm-trans, perm-gather, perm-gather-each}
use Rattle.lists.proofs.Sorting.{sort-map, sort-perm, sort-member, sort-each}
use Rattle.lists.proofs.Members.{in_list, in-append-cases, in_append_left, in_append_right, of_map}
use Rattle.patterns.specs.Tree.{valid_tree}
use Rattle.patterns.specs.Component.{least_rotation, valid_component}
use Rattle.patterns.specs.System.{compare_generated, canonical}
use Rattle.patterns.specs.Table.{cycle_from, leaders}
use Rattle.patterns.proofs.Rotations.{Rotated, rotated-perm, least_rotation-rotated, least_rotation-valid}
use Rattle.map_theory.specs.Plants.{compare_shapes}
use Rattle.lists.proofs.Gathering.{gather-gather, gather-map}
use Rattle.map_theory.proofs.Pictures.{Plant, shape, root, labels, all_labels, shapes, Picture}
use Rattle.map_theory.proofs.Cycles.{cycle-turned}
use Rattle.map_theory.proofs.Leaders.{cycle-turn, leader-on_cycle}
use Rattle.map_theory.proofs.Levels.{levels-perm, cycles-level}
use Rattle.map_theory.proofs.PlantAt.{plant_to, plant_to-shape, plant_to-root, plant_to-arrows, tree_to-valid, level-labels}
use Rattle.map_theory.proofs.SortedCanonical.{sort-generated, sorted-canonical}

-- a cut of the image is the image of a cut
pub map-cut : {A B : Type 0} (g : A → B) (l : List A) (a b : List B) → map g l ≡ a ++ b
    → (a' : List A) × (b' : List A) × (l ≡ a' ++ b') × (map g a' ≡ a) × (map g b' ≡ b)
map-cut g l [] b e = ([], l, refl, refl, e)
map-cut g [] (y ∷ a) b e = absurd (omega (arith, ap length e))
map-cut g (x ∷ l) (y ∷ a) b e =
    let r = map-cut g l a b (tail-eq_of_cons-eq e) in
    (x ∷ r.0, r.1, ap (λ t. x ∷ t) r.2, ap₂ ◌∷◌ (head-eq_of_cons-eq e) r.3, r.4)

-- plants along a cycle, turned to the least rotation of their shapes
pub turned : (c : List Plant) → (d : List Plant) × (map shape d ≡ least_rotation (map shape c)) × Rotated c d
turned c =
    let r = least_rotation-rotated (map shape c) in
    let s = map-cut shape c r.front r.back r.cut in (
      s.1 ++ s.0,
      map-append shape s.1 s.0 ∙ ap₂ ◌++◌ s.4 s.3 ∙ sym r.joined,
      record { front = s.0; back = s.1; cut = s.2; joined = refl },
    )

module _ (n : ℕ) (f : ℕ → ℕ) where
  -- the plants along the cycle from x
  along : ℕ → List Plant
  along x = map (plant_to n f n) (cycle_from n f x)

  turned_along : ℕ → List Plant
  unfolding along
  turned_along x = (turned (along x)).0

  -- the picture
  unfoldable pub picture_of : List (List Plant)
  unfolding turned_along
  picture_of = sort compare_shapes (map turned_along (leaders n f))

  along-roots : (x : ℕ) → map root (along x) ≡ cycle_from n f x
  unfolding along
  along-roots x = roots (cycle_from n f x)
    where
      roots : (l : List ℕ) → map root (map (plant_to n f n) l) ≡ l
      roots [] = refl
      roots (y ∷ l) = ap₂ ◌∷◌ (plant_to-root n f n y) (roots l)

  of-along : (x : ℕ) {t : Plant} → t ∈ along x → (y : ℕ) × (t ≡ plant_to n f n y)
  unfolding along
  of-along x m = let r = of_map (plant_to n f n) (cycle_from n f x) m in (r.0, r.2)

  along-valid : (x : ℕ) → valid_component (map shape (turned_along x)) ≡ true
  unfolding turned_along along cycle_from
  along-valid x =
      rw (turned (along x)).1
      (least_rotation-valid (map shape (along x)) refl
      (each-true valid_tree (map shape (along x))
      (λ u m.
      let r = of_map shape (along x) m in
      let s = of-along x r.1 in
      ap valid_tree (r.2 ∙ ap shape s.1 ∙ plant_to-shape n f n s.0) ∙ tree_to-valid n f n s.0)))

  module _ (inside : (x : ℕ) → x < n → f x < n) where
    labels-perm : Perm (all_labels picture_of) (range 0 n)
    unfolding picture_of turned_along along
    labels-perm =
        let g : ℕ → List ℕ = λ y. labels (plant_to n f n y) in
        perm-trans (perm-gather (gather labels) (sort-perm compare_shapes (map turned_along (leaders n f))))
        (perm-trans (perm-path (gather-map (gather labels) turned_along (leaders n f)))
        (perm-trans
        (perm-gather-each (λ x. gather labels (turned_along x)) (λ x. gather g (cycle_from n f x)) (leaders n f)
        (λ x m. perm-trans (perm-gather labels (rotated-perm (turned (along x)).2)) (perm-path (gather-map labels (plant_to n f n) (cycle_from n f x)))))
        (perm-trans (perm-path (sym (gather-gather g (cycle_from n f) (leaders n f))))
        (perm-trans (perm-gather g (cycles-level n f inside))
        (perm-trans (level-labels n f inside n 0) (levels-perm n f inside (suc n) (omega arith)))))))

    -- every map on n points has a picture with canonical shapes
    pub picture_of-picture : Picture n f picture_of
    unfolding picture_of turned_along along
    picture_of-picture = record {
      points = labels-perm;
      arrows = λ c t i j.
          let r = of_map turned_along (leaders n f) (sort-member compare_shapes (map turned_along (leaders n f)) i) in
          let s = (turned (along r.0)).2 in
          let k = in_list r.2 j in
          let u : t ∈ along r.0 = in_list (sym s.cut) (either (in-append-cases s.back (in_list s.joined k))
          (λ m. in_append_right s.front m) (λ m. in_append_left s.back m)) in
          let v = of-along r.0 u in
          rw v.1 (plant_to-arrows n f n v.0);
      cycles = λ c i.
          let r = of_map turned_along (leaders n f) (sort-member compare_shapes (map turned_along (leaders n f)) i) in
          let s = (turned (along r.0)).2 in
          let e : cycle_from n f r.0 ≡ map root s.front ++ map root s.back =
          sym (along-roots r.0) ∙ ap (map root) s.cut ∙ map-append root s.front s.back in
          let h : map root c ≡ map root s.back ++ map root s.front =
          ap (map root) (r.2 ∙ s.joined) ∙ map-append root s.back s.front in
          let k = cycle-turn n f r.0 (leader-on_cycle n f inside r.1) in
          rw h (cycle-turned f (map root s.front) (map root s.back) (rw e at k));
    }

  pub picture_of-canonical : canonical (shapes picture_of) ≡ true
  unfolding picture_of
  picture_of-canonical =
      rw (sym (sort-map compare_shapes compare_generated (map shape) (map turned_along (leaders n f)) (λ c d i j. refl)))
      (sorted-canonical (sort compare_generated (map (map shape) (map turned_along (leaders n f))))
      (sort-each compare_generated valid_component (map (map shape) (map turned_along (leaders n f)))
      ∙ each-true valid_component (map (map shape) (map turned_along (leaders n f)))
      (λ c m.
      let r = of_map (map shape) (map turned_along (leaders n f)) m in
      let s = of_map turned_along (leaders n f) r.1 in
      ap valid_component (r.2 ∙ ap (map shape) s.2) ∙ along-valid s.0))
      (sort-generated (map (map shape) (map turned_along (leaders n f)))))

-- every map on n points has a picture with canonical shapes
pub picture-exists : (n : ℕ) (f : ℕ → ℕ) → ((x : ℕ) → x < n → f x < n)
    → (pic : List (List Plant)) × Picture n f pic × (canonical (map (map shape) pic) ≡ true)
picture-exists n f inside = (picture_of n f, picture_of-picture n f inside, picture_of-canonical n f)
