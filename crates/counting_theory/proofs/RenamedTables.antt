-- A map whose points are renamed by an order of them: the renaming is an isomorphism to its table and to no other.
use mathlib.Core.Path.{◌≡◌, ap, sym, ◌∙◌}
use mathlib.Core.List.{List}
use Prim.Native.Nat.{ℕ, ◌<◌, compare}
use native.Mathlib.Omega.{arith}
use lib.ListN.{length, length-map}
use Rattle.lists.specs.Select.{range, place}
use Rattle.lists.proofs.Members.{of_map, of_range}
use Rattle.lists.proofs.Permute.{Perm}
use Rattle.lists.proofs.Gathering.{map_same}
use Rattle.lists.proofs.Places.{range_length}
use Rattle.patterns.specs.Table.{image}
use Rattle.patterns.specs.Isomorphism.{Isomorphism}
use Rattle.map_theory.proofs.PointsOnce.{image-of-map, perm-below, perm-place, place-image, isomorphism-of-perm}
use Rattle.map_theory.proofs.Isomorphisms.{table-read}
use Rattle.counting_theory.specs.Renaming.{renamed_image, renamed_table}
use Rattle.counting_theory.proofs.TableLists.{PointTable, points-table}

module _ {n : ℕ} (m : List ℕ) {r : List ℕ} (p : Perm r (range 0 n)) where
  pub renamed-isomorphism : Isomorphism n m (renamed_table n m r) r
  unfolding renamed_table
  renamed-isomorphism =
      isomorphism-of-perm p (λ x h.
      ap (λ y. image r (image m y)) (sym (place-image p x h)) ∙ sym (image-of-map n (renamed_image m r) (image r x) (perm-below p x h)))

  pub renamed-table : ((x : ℕ) → x < n → image m x < n) → PointTable n (renamed_table n m r)
  unfolding renamed_table
  renamed-table below =
      points-table (length-map (range 0 n) (renamed_image m r) ∙ range_length 0 n)
      (λ y k.
      let q = of_map (renamed_image m r) (range 0 n) k in
      let b = of_range 0 n q.1 in
      rw q.2 (perm-below p (image m (place compare q.0 r)) (below (place compare q.0 r) (perm-place p q.0 (omega arith)).0)))

  pub renamed-only : (f : List ℕ) → length f ≡ n → Isomorphism n m f r → f ≡ renamed_table n m r
  unfolding renamed_table
  renamed-only f l i =
      sym (table-read n f l)
      ∙ map_same (image f) (renamed_image m r) (range 0 n)
      (λ y k.
      let b = of_range 0 n k in
      let q = perm-place p y (omega arith) in
      ap (image f) (sym q.1) ∙ sym (i.follows (place compare y r) q.0))
