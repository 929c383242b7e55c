-- The labels of a picture, in written order, are an isomorphism from the map of its shapes to the map that it shows.
use mathlib.Core.Path.{◌≡◌, refl, ap, ap₂, sym, ◌∙◌}
use mathlib.Core.List.{List, [], ◌∷◌, ◌++◌, map, map-append, append-nil, head-eq_of_cons-eq, tail-eq_of_cons-eq}
use Prim.Native.Nat.{ℕ, ◌+◌}
use native.Mathlib.Omega.{arith}
use lib.ListN.{length, get_or}
use Rattle.lists.specs.Select.{gather}
use Rattle.lists.proofs.Tests.{◌∈◌}
use Rattle.lists.proofs.Members.{in_head, in_tail}
use Rattle.patterns.specs.Tree.{size}
use Rattle.patterns.specs.Component.{points, turn}
use Rattle.patterns.specs.MapOf.{inner_images, cycle_images, images_from, map_of}
use Rattle.patterns.specs.Table.{image}
use Rattle.patterns.specs.Isomorphism.{Isomorphism}
use Rattle.lists.proofs.Gathering.{get_d_map}
use Rattle.map_theory.proofs.Pictures.{Plant, shape, root, inner, labels, Arrows, arrows_tip, arrows_join, all_labels, shapes, Picture}
use Rattle.map_theory.proofs.Plants.{length-inner}
use Rattle.map_theory.proofs.PointsOnce.{perm-points, isomorphism-of-perm}
use Rattle.map_theory.proofs.Shown.{length-labels, picture-weight}
use Rattle.map_theory.proofs.MapOf.{Reads, reads_self, reads-head, reads-left, reads-right, length-map_of}

module _ (f : ℕ → ℕ) (r : List ℕ) where
  -- inside a plant
  inner-follows : (p : ℕ) {t : Plant} → Arrows f t → Reads r p (labels t) → map (image r) (inner_images p (shape t)) ≡ map f (inner t)
  inner-follows p arrows_tip h = refl
  inner-follows p (arrows_join {t = t} {u = u} a b e) h =
      let q = p + size (shape t) in
      let here = reads-left (labels u) h in
      let there = reads-right (labels t) q (omega (arith, length-inner t)) h in
      map-append (image r) (inner_images p (shape t)) (p ∷ inner_images q (shape u))
      ∙ ap₂ ◌++◌ (inner-follows p a here) (ap₂ ◌∷◌ (reads-head here ∙ sym e) (inner-follows q b there))
      ∙ sym (map-append f (inner t) (labels u))

  -- along a cycle; the point after the last root is x, at place `first`
  cycle-follows : (first p x : ℕ) (t : Plant) (c : List Plant) → image r first ≡ x → ((u : Plant) → u ∈ (t ∷ c) → Arrows f u)
      → map f (map root (t ∷ c)) ≡ map root c ++ (x ∷ []) → Reads r p (gather labels (t ∷ c))
      → map (image r) (cycle_images first p (map shape (t ∷ c))) ≡ map f (gather labels (t ∷ c))
  cycle-follows first p x t [] b a e h =
      ap₂ ◌∷◌ (b ∙ sym (head-eq_of_cons-eq e)) (inner-follows p (a t in_head) (reads-left [] h))
      ∙ ap (map f) (sym (append-nil (labels t)))
  cycle-follows first p x t (u ∷ c) b a e h =
      let q = p + size (shape t) in
      let there = reads-right (labels t) q (omega (arith, length-inner t)) h in
      ap₂ ◌∷◌ (reads-head there ∙ sym (head-eq_of_cons-eq e))
      (map-append (image r) (inner_images p (shape t)) (cycle_images first q (map shape (u ∷ c)))
      ∙ ap₂ ◌++◌ (inner-follows p (a t in_head) (reads-left (gather labels (u ∷ c)) h))
      (cycle-follows first q x u c b (λ v m. a v (in_tail m)) (tail-eq_of_cons-eq e) there)
      ∙ sym (map-append f (inner t) (gather labels (u ∷ c))))

  component-follows : (p : ℕ) (c : List Plant) → ((u : Plant) → u ∈ c → Arrows f u)
      → map f (map root c) ≡ turn (map root c) → Reads r p (gather labels c)
      → map (image r) (cycle_images p p (map shape c)) ≡ map f (gather labels c)
  component-follows p [] a e h = refl
  component-follows p (t ∷ c) a e h = cycle-follows p p (root t) t c (reads-head h) a e h

  system-follows : (p : ℕ) (pic : List (List Plant)) → ((c : List Plant) (t : Plant) → c ∈ pic → t ∈ c → Arrows f t)
      → ((c : List Plant) → c ∈ pic → map f (map root c) ≡ turn (map root c)) → Reads r p (all_labels pic)
      → map (image r) (images_from p (shapes pic)) ≡ map f (all_labels pic)
  system-follows p [] a e h = refl
  system-follows p (c ∷ pic) a e h =
      let q = p + points (map shape c) in
      map-append (image r) (cycle_images p p (map shape c)) (images_from q (shapes pic))
      ∙ ap₂ ◌++◌ (component-follows p c (λ t k. a c t in_head k) (e c in_head) (reads-left (all_labels pic) h))
      (system-follows q pic (λ d t m k. a d t (in_tail m) k) (λ d m. e d (in_tail m))
      (reads-right (gather labels c) q (omega (arith, length-labels c)) h))
      ∙ sym (map-append f (gather labels c) (all_labels pic))

-- following the map of the shapes and then the labels is following the labels and then the map
pub labels-follow : (n : ℕ) (f : ℕ → ℕ) (pic : List (List Plant)) → Picture n f pic
    → map (image (all_labels pic)) (map_of (shapes pic)) ≡ map f (all_labels pic)
unfolding map_of
labels-follow n f pic p = system-follows f (all_labels pic) 0 pic p.arrows p.cycles (reads_self (all_labels pic))

-- the labels are an isomorphism
pub picture-isomorphism : (n : ℕ) (f : List ℕ) (pic : List (List Plant)) → Picture n (image f) pic
    → Isomorphism n (map_of (shapes pic)) f (all_labels pic)
picture-isomorphism n f pic p =
    let r = all_labels pic in
    let m = map_of (shapes pic) in
    let l : length r ≡ n = perm-points p.points in
    let k : length m ≡ n = length-map_of (shapes pic) ∙ picture-weight n (image f) pic p in
    isomorphism-of-perm p.points (λ x h.
    sym (get_d_map (image r) m x 0 0 (omega arith))
    ∙ ap (λ s. get_or s x 0) (labels-follow n (image f) pic p)
    ∙ get_d_map (image f) r x 0 0 (omega arith))
