-- The sum of two systems, said of their components: "both systems side by side" [document 02, paper 5] are the components of both, sorted together.
use mathlib.Core.Path.{◌≡◌, refl, ap, ap₂, sym, ◌∙◌}
use mathlib.Core.Bool.{true}
use mathlib.Core.List.{[], ◌∷◌, ◌++◌, map, map-append, append_assoc}
use Prim.Native.Nat.{ℕ, ◌+◌}
use native.Mathlib.Nat.{add-zero, add_assoc}
use native.Mathlib.Omega.{arith}
use lib.ListN.{length}
use Rattle.lists.specs.Sort.{sort}
use Rattle.lists.specs.Select.{each}
use Rattle.lists.proofs.Tests.{each_append, true-and}
use Rattle.lists.proofs.Permute.{Perm, perm-sym, perm-trans, perm-path}
use Rattle.lists.proofs.Sorting.{sort-perm}
use Rattle.patterns.specs.Tree.{Tree, point, merge, size}
use Rattle.patterns.specs.Component.{Component, points, valid_component}
use Rattle.patterns.specs.System.{System, weight, compare_generated, canonical}
use Rattle.patterns.specs.Table.{image, system_of, system_of_table}
use Rattle.patterns.specs.MapOf.{inner_images, cycle_images, images_from, map_of}
use Rattle.patterns.specs.Arithmetic.{sum_table, sum_of}
use Rattle.map_theory.proofs.Pictures.{shapes}
use Rattle.component_theory.proofs.CanonicalComponents.{canonical-valid}
use Rattle.map_theory.proofs.Ordered.{sort-canonical}
use Rattle.map_theory.proofs.Shown.{components-shown}
use Rattle.map_theory.proofs.MapOf.{numbered_system, numbered_system-shapes, length-map_of, map_of-picture}
use Rattle.arithmetic_theory.proofs.SystemLaws.{sum-canonical}

-- the images where every point is greater by k
inner-shifted : (k p : ℕ) (t : Tree) → inner_images (k + p) t ≡ map (λ y. k + y) (inner_images p t)
inner-shifted k p point = refl
inner-shifted k p (merge t u) =
    ap₂ ◌++◌ (inner-shifted k p t) (ap (λ l. (k + p) ∷ l) (ap (λ q. inner_images q u) (add_assoc k p (size t)) ∙ inner-shifted k (p + size t) u))
    ∙ sym (map-append (λ y. k + y) (inner_images p t) (p ∷ inner_images (p + size t) u))

cycle-shifted : (k first p : ℕ) (c : Component) → cycle_images (k + first) (k + p) c ≡ map (λ y. k + y) (cycle_images first p c)
cycle-shifted k first p [] = refl
cycle-shifted k first p (t ∷ []) = ap (λ l. (k + first) ∷ l) (inner-shifted k p t)
cycle-shifted k first p (t ∷ u ∷ c) =
    let e = add_assoc k p (size t) in
    ap₂ ◌∷◌ e
    (ap₂ ◌++◌ (inner-shifted k p t) (ap (λ q. cycle_images (k + first) q (u ∷ c)) e ∙ cycle-shifted k first (p + size t) (u ∷ c))
    ∙ sym (map-append (λ y. k + y) (inner_images p t) (cycle_images first (p + size t) (u ∷ c))))

images-shifted : (k p : ℕ) (S : System) → images_from (k + p) S ≡ map (λ y. k + y) (images_from p S)
images-shifted k p [] = refl
images-shifted k p (c ∷ S) =
    ap₂ ◌++◌ (cycle-shifted k p p c) (ap (λ q. images_from q S) (add_assoc k p (points c)) ∙ images-shifted k (p + points c) S)
    ∙ sym (map-append (λ y. k + y) (cycle_images p p c) (images_from (p + points c) S))

images-append : (p : ℕ) (S T : System) → images_from p (S ++ T) ≡ images_from p S ++ images_from (p + weight S) T
images-append p [] T = ap (λ q. images_from q T) (sym (add-zero p))
images-append p (c ∷ S) T =
    ap (λ l. cycle_images p p c ++ l)
    (images-append (p + points c) S T ∙ ap (λ q. images_from (p + points c) S ++ images_from q T) (add_assoc p (points c) (weight S)))
    ∙ sym (append_assoc (cycle_images p p c) (images_from (p + points c) S) (images_from (p + (points c + weight S)) T))

-- the map of two systems, one after the other, is the sum of their maps
map-of-both : (S T : System) → map_of (S ++ T) ≡ sum_table (map_of S) (map_of T)
unfolding map_of
map-of-both S T =
    let k : 0 + weight S ≡ length (map_of S) + 0 = omega (arith, length-map_of S) in
    images-append 0 S T ∙ ap (λ l. images_from 0 S ++ l) (ap (λ q. images_from q T) k ∙ images-shifted (length (map_of S)) 0 T)

module _ (S T : System) (c : canonical S ≡ true) (d : canonical T ≡ true) where
  -- the components of the sum are those of both
  pub sum-components : Perm (sum_of S T) (S ++ T)
  unfolding sum_of system_of_table system_of
  sum-components =
      let same = numbered_system-shapes 0 (S ++ T) in
      let valid : each valid_component (shapes (numbered_system 0 (S ++ T))) ≡ true =
      ap (each valid_component) same ∙ each_append valid_component S T ∙ true-and (canonical-valid S c) (canonical-valid T d) in
      perm-trans (perm-path (ap system_of_table (sym (map-of-both S T)) ∙ ap (λ n. system_of n (image (map_of (S ++ T)))) (length-map_of (S ++ T))))
      (perm-trans (sort-perm compare_generated _)
      (perm-trans (components-shown (weight (S ++ T)) (image (map_of (S ++ T))) (numbered_system 0 (S ++ T)) (map_of-picture (S ++ T)) valid) (perm-path same)))

  -- so it is both lists, sorted together
  pub sum-sorted : sum_of S T ≡ sort compare_generated (S ++ T)
  sum-sorted = sym (sort-canonical (sum_of S T) (sum-canonical S T) (perm-sym sum-components))
