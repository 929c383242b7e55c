-- The isomorphisms of a table to itself are as many as its system has symmetries.
use mathlib.Core.Path.{◌≡◌, refl, ap, sym, ◌∙◌}
use mathlib.Core.Bool.{true}
use mathlib.Core.List.{List, map, map-map}
use Prim.Native.Nat.{ℕ, ◌<◌, compare}
use native.Mathlib.Omega.{arith}
use lib.ListN.{length}
use Rattle.lists.specs.Select.{range, place}
use Rattle.lists.proofs.Tests.{◌∈◌}
use Rattle.lists.proofs.Comparison.{compare-lawful}
use Rattle.lists.proofs.Permute.{perm-member}
use Rattle.lists.proofs.Members.{of_range}
use Rattle.lists.proofs.Gathering.{map_same, get_d_map}
use Rattle.patterns.specs.System.{System}
use Rattle.patterns.specs.Table.{image, is_table, system_of_table}
use Rattle.patterns.specs.MapOf.{map_of}
use Rattle.patterns.specs.Isomorphism.{Isomorphism, is_isomorphism, isomorphisms}
use Rattle.patterns.proofs.Bridges.{isomorphism-test}
use Rattle.map_theory.proofs.MapOf.{length-map_of, map_of-table}
use Rattle.map_theory.proofs.PointsOnce.{image-of-map, perm-below, perm-place, place-image}
use Rattle.map_theory.proofs.Isomorphisms.{table_below, table-read, isomorphism-perm, isomorphism-compose, inverse, isomorphism-inverse}
use Rattle.map_theory.proofs.Theorems.{table-canonical, table-weight, isomorphic-to-map-of-system}
use Rattle.counting_theory.specs.Symmetries.{symmetries}
use Rattle.counting_theory.proofs.Exactly.{Exactly, exactly-unique, exactly-same, exactly-keep, exactly-map}
use Rattle.counting_theory.proofs.TableLists.{in_tables, tables-nodup}
use Rattle.counting_theory.proofs.CountedIsomorphisms.{exactly-isomorphisms}

-- back by a, and from there by r
around : ℕ → List ℕ → List ℕ → List ℕ
around n a r = map (image r) (inverse n a)

-- the same, point by point
by_place : List ℕ → List ℕ → ℕ → ℕ
by_place a r x = image r (place compare x a)

-- Isomorphisms to g, from a map m and from a map f that is isomorphic to it by a.
module _ {n : ℕ} {m f a : List ℕ} (into-m : (x : ℕ) → x < n → image m x < n) (into-f : (x : ℕ) → x < n → image f x < n) (i : Isomorphism n m f a) where
  around-list : (r : List ℕ) → around n a r ≡ map (by_place a r) (range 0 n)
  unfolding around inverse by_place
  around-list r = map-map (image r) (λ x. place compare x a) (range 0 n)

  around-image : (r : List ℕ) (y : ℕ) → y < n → image (around n a r) (image a y) ≡ image r y
  unfolding by_place
  around-image r y h =
      let p = isomorphism-perm i in
      ap (λ l. image l (image a y)) (around-list r)
      ∙ image-of-map n (by_place a r) (image a y) (perm-below p y h)
      ∙ ap (image r) (place-image p y h)

  -- every isomorphism from f is such a way round
  around-whole : (q : List ℕ) → length q ≡ n → q ≡ around n a (map (image q) a)
  unfolding by_place
  around-whole q l =
      sym (table-read n q l)
      ∙ map_same (image q) (by_place a (map (image q) a)) (range 0 n)
      (λ x k.
      let b = of_range 0 n k in
      let h : x < n = omega arith in
      let s = perm-place (isomorphism-perm i) x h in
      sym (get_d_map (image q) a (place compare x a) 0 0 (omega (arith, i.points, s.0)) ∙ ap (image q) s.1))
      ∙ sym (around-list (map (image q) a))

  around-apart : (r s : List ℕ) → length r ≡ n → length s ≡ n → around n a r ≡ around n a s → r ≡ s
  around-apart r s l k e =
      sym (table-read n r l)
      ∙ map_same (image r) (image s) (range 0 n)
      (λ y j.
      let b = of_range 0 n j in
      let h : y < n = omega arith in
      sym (around-image r y h) ∙ ap (λ z. image z (image a y)) e ∙ around-image s y h)
      ∙ table-read n s k

  exactly-around : {g : List ℕ} {k : ℕ} → Exactly (Isomorphism n m g) k → Exactly (Isomorphism n f g) k
  unfolding around
  exactly-around =
      exactly-map (around n a)
      (λ r j. isomorphism-compose into-f (isomorphism-inverse into-m into-f i) j)
      (λ q j. (map (image q) a, isomorphism-compose into-m i j, around-whole q j.points))
      (λ r s j k e. around-apart r s j.points k.points e)

module _ (f : List ℕ) (t : is_table f ≡ true) where
  abbrev n : ℕ
  n = length f

  abbrev S : System
  S = system_of_table f

  exactly-automorphisms : Exactly (Isomorphism n f f) (symmetries S)
  exactly-automorphisms =
      let a = isomorphic-to-map-of-system n f refl t in
      let w = table-weight n f refl t in
      exactly-around (table_below n (map_of S) (length-map_of S ∙ w) (map_of-table S)) (table_below n f refl t) a.1
      (exactly-isomorphisms n S f (table-canonical n f refl t) w refl t refl)

  listed-isomorphism : {r : List ℕ} → Isomorphism n f f r → (y : ℕ) → y ∈ r → y < n
  listed-isomorphism i y k = let b = of_range 0 n (perm-member compare-lawful (isomorphism-perm i) k) in omega arith

  -- counted one by one
  pub automorphisms-counted : length (isomorphisms f f) ≡ symmetries S
  unfolding isomorphisms
  automorphisms-counted =
      exactly-unique
      (exactly-same
      (λ r q. (isomorphism-test n f f r).1 q.1)
      (λ r i. (in_tables n n r i.points (listed-isomorphism i), (isomorphism-test n f f r).0 i))
      (exactly-keep (is_isomorphism n f f) (tables-nodup n n)))
      exactly-automorphisms
