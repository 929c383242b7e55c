-- A picture of one map, renamed by an isomorphism, is a picture of the other with the same shapes.
use mathlib.Core.Path.{◌≡◌, refl, ap, ap₂, sym, ◌∙◌}
use mathlib.Core.List.{List, ◌++◌, map, map-map, map-append}
use Prim.Native.Nat.{ℕ, ◌<◌}
use Rattle.lists.specs.Select.{gather, range}
use Rattle.lists.proofs.Tests.{◌∈◌}
use Rattle.lists.proofs.Permute.{Perm, perm-trans, perm-path, perm-map}
use Rattle.lists.proofs.Members.{in_head, in_append_left, in_append_right, in_moved, of_map, in-gather}
use Rattle.patterns.specs.Tree.{merge}
use Rattle.patterns.specs.Component.{turn}
use Rattle.patterns.specs.Table.{image}
use Rattle.patterns.specs.Isomorphism.{Isomorphism}
use Rattle.lists.proofs.Gathering.{map_same, map-gather, gather-map, gather-same, below_of}
use Rattle.map_theory.proofs.Pictures.{Plant, tip, join, shape, root, labels, Arrows, arrows_tip, arrows_join, all_labels, shapes, Picture}
use Rattle.map_theory.proofs.Cycles.{map-turn}
use Rattle.map_theory.proofs.Isomorphisms.{table-read, isomorphism-perm}

-- every point replaced by its new name
abbrev pub renamed : (ℕ → ℕ) → Plant → Plant
renamed r (tip x) = tip (r x)
renamed r (join t u) = join (renamed r t) (renamed r u)

module _ (r : ℕ → ℕ) where
  pub renamed-shape : (t : Plant) → shape (renamed r t) ≡ shape t
  renamed-shape (tip x) = refl
  renamed-shape (join t u) = ap₂ merge (renamed-shape t) (renamed-shape u)

  pub renamed-root : (t : Plant) → root (renamed r t) ≡ r (root t)
  renamed-root (tip x) = refl
  renamed-root (join t u) = renamed-root t

  pub renamed-labels : (t : Plant) → labels (renamed r t) ≡ map r (labels t)
  renamed-labels (tip x) = refl
  renamed-labels (join t u) = ap₂ ◌++◌ (renamed-labels t) (renamed-labels u) ∙ sym (map-append r (labels t) (labels u))

  pub renamed-arrows : (f g : ℕ → ℕ) {t : Plant} → Arrows f t → ((x : ℕ) → x ∈ labels t → r (f x) ≡ g (r x)) → Arrows g (renamed r t)
  renamed-arrows f g arrows_tip h = arrows_tip
  renamed-arrows f g (arrows_join {t = t} {u = u} a b e) h =
      arrows_join
      (renamed-arrows f g a (λ x m. h x (in_append_left (labels u) m)))
      (renamed-arrows f g b (λ x m. h x (in_append_right (labels t) m)))
      (ap g (renamed-root u) ∙ sym (h (root u) (in_append_right (labels t) in_head)) ∙ ap r e ∙ sym (renamed-root t))

  renamed-roots : (c : List Plant) → map root (map (renamed r) c) ≡ map r (map root c)
  renamed-roots c =
      map-map root (renamed r) c
      ∙ map_same (λ t. root (renamed r t)) (λ t. r (root t)) c (λ t m. renamed-root t)
      ∙ sym (map-map r root c)

  renamed-component : (c : List Plant) → gather labels (map (renamed r) c) ≡ map r (gather labels c)
  renamed-component c =
      gather-map labels (renamed r) c
      ∙ gather-same (λ t. labels (renamed r t)) (λ t. map r (labels t)) c (λ t m. renamed-labels t)
      ∙ sym (map-gather r labels c)

  -- the points of the renamed picture
  pub renamed-all_labels : (pic : List (List Plant)) → all_labels (map (map (renamed r)) pic) ≡ map r (all_labels pic)
  renamed-all_labels pic =
      gather-map (gather labels) (map (renamed r)) pic
      ∙ gather-same (λ c. gather labels (map (renamed r) c)) (λ c. map r (gather labels c)) pic (λ c m. renamed-component c)
      ∙ sym (map-gather r (gather labels) pic)

  -- the shapes are the same
  pub renamed-shapes : (pic : List (List Plant)) → shapes (map (map (renamed r)) pic) ≡ shapes pic
  renamed-shapes pic =
      map-map (map shape) (map (renamed r)) pic
      ∙ map_same (λ c. map shape (map (renamed r) c)) (map shape) pic (λ c m.
      map-map shape (renamed r) c ∙ map_same (λ t. shape (renamed r t)) shape c (λ t k. renamed-shape t))

  -- a picture, renamed
  pub renamed-picture : (n : ℕ) (f g : ℕ → ℕ) (pic : List (List Plant)) → Picture n f pic → Perm (map r (range 0 n)) (range 0 n)
      → ((x : ℕ) → x < n → r (f x) ≡ g (r x)) → Picture n g (map (map (renamed r)) pic)
  renamed-picture n f g pic p q h =
      let point : (c : List Plant) (t : Plant) (x : ℕ) → c ∈ pic → t ∈ c → x ∈ labels t → x < n =
      λ c t x m k i. below_of p.points (in-gather (gather labels) m (in-gather labels k i)) in
      record {
        points = perm-trans (perm-path (renamed-all_labels pic)) (perm-trans (perm-map r p.points) q);
        arrows = λ c t m k.
            let s = of_map (map (renamed r)) pic m in
            let u = of_map (renamed r) s.0 (rw s.2 at k) in
            rw u.2 (renamed-arrows f g (p.arrows s.0 u.0 s.1 u.1) (λ x i. h x (point s.0 u.0 x s.1 u.1 i)));
        cycles = λ c m.
            let s = of_map (map (renamed r)) pic m in
            let d = s.0 in
            let e : map g (map root (map (renamed r) d)) ≡ turn (map root (map (renamed r) d)) =
            ap (map g) (renamed-roots d)
            ∙ map-map g r (map root d)
            ∙ map_same (λ x. g (r x)) (λ x. r (f x)) (map root d) (λ x k.
            let u = of_map root d k in
            sym (h x (point d u.0 x s.1 u.1 (in_moved (sym u.2) in_head))))
            ∙ sym (map-map r f (map root d))
            ∙ ap (map r) (p.cycles d s.1)
            ∙ map-turn r (map root d)
            ∙ ap turn (sym (renamed-roots d)) in
            rw s.2 e;
      }

-- by an isomorphism of tables
pub isomorphic-picture : (n : ℕ) (f g r : List ℕ) (pic : List (List Plant)) → Picture n (image f) pic → Isomorphism n f g r
    → Picture n (image g) (map (map (renamed (image r))) pic)
isomorphic-picture n f g r pic p i =
    renamed-picture (image r) n (image f) (image g) pic p (perm-trans (perm-path (table-read n r i.points)) (isomorphism-perm i)) i.follows
