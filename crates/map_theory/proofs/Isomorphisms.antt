-- Isomorphisms of tables: they are permutations of the points, they compose and invert.
use mathlib.Core.Path.{◌≡◌, ap, sym, ◌∙◌}
use mathlib.Core.List.{List, map, map-map, map-id}
use mathlib.Core.Bool.{true}
use Prim.Native.Nat.{ℕ, ◌<◌, compare}
use native.Mathlib.Omega.{arith}
use lib.ListN.{length, length-map}
use Rattle.lists.specs.Select.{range, place}
use Rattle.lists.proofs.Permute.{Perm, perm-sym, perm-trans, perm-path, perm-map}
use Rattle.lists.proofs.Members.{of_range}
use Rattle.lists.proofs.Places.{in-index, index_of}
use Rattle.patterns.specs.Table.{image, is_table}
use Rattle.patterns.specs.Isomorphism.{Isomorphism}
use Rattle.lists.proofs.Gathering.{map_same, once-perm, perm-once, of-below, get_d_map}
use Rattle.map_theory.proofs.PointsOnce.{table-member, perm-below, perm-place, place-image, image-of-map, isomorphism-of-perm}
use Rattle.map_theory.proofs.MapOf.{reads_self}

-- the images of a table are points
pub table_below : (n : ℕ) (f : List ℕ) → length f ≡ n → is_table f ≡ true → (x : ℕ) → x < n → image f x < n
table_below n f l t x h = omega (arith, table-member f t (in-index f x 0 (omega arith)))

-- a table of n entries, read from 0 to n − 1, is the table
pub table-read : (n : ℕ) (r : List ℕ) → length r ≡ n → map (image r) (range 0 n) ≡ r
table-read n r l = ap (λ k. map (image r) (range 0 k)) (sym l) ∙ (reads_self r).reads

-- a table in which every point stands once is a permutation of the points
pub isomorphism-perm : {n : ℕ} {f g r : List ℕ} → Isomorphism n f g r → Perm r (range 0 n)
isomorphism-perm {n} {f} {g} {r} i = once-perm n r i.points i.once

pub isomorphism-below : {n : ℕ} {f g r : List ℕ} → Isomorphism n f g r → (x : ℕ) → x < n → image r x < n
isomorphism-below i = perm-below (isomorphism-perm i)

-- first r, then s
pub isomorphism-compose : {n : ℕ} {f g h r s : List ℕ} → ((x : ℕ) → x < n → image f x < n) → Isomorphism n f g r → Isomorphism n g h s
    → Isomorphism n f h (map (image s) r)
isomorphism-compose {n} {f} {g} {h} {r} {s} b i j =
    let both : (x : ℕ) → x < n → image (map (image s) r) x ≡ image s (image r x) =
    λ x k. get_d_map (image s) r x 0 0 (omega (arith, i.points)) in
    let p : Perm (map (image s) r) (range 0 n) =
    perm-trans (perm-map (image s) (isomorphism-perm i)) (perm-trans (perm-path (table-read n s j.points)) (isomorphism-perm j)) in
    record {
      points = length-map r (image s) ∙ i.points;
      once = perm-once n (map (image s) r) p;
      follows = λ x k.
          both (image f x) (b x k)
          ∙ ap (image s) (i.follows x k)
          ∙ j.follows (image r x) (isomorphism-below i x k)
          ∙ ap (image h) (sym (both x k));
    }

-- the table of the places of the points in r
unfoldable pub inverse : ℕ → List ℕ → List ℕ
inverse n r = map (λ x. place compare x r) (range 0 n)

-- back
pub isomorphism-inverse : {n : ℕ} {f g r : List ℕ} → ((x : ℕ) → x < n → image f x < n) → ((x : ℕ) → x < n → image g x < n) → Isomorphism n f g r
    → Isomorphism n g f (inverse n r)
unfolding inverse
isomorphism-inverse {n} {f} {g} {r} b d i =
    let p = isomorphism-perm i in
    let to : ℕ → ℕ = λ x. place compare x r in
    let here : (x : ℕ) → x < n → to (image r x) ≡ x = place-image p in
    let all : Perm (map to (range 0 n)) (range 0 n) =
    perm-trans (perm-map to (perm-sym p))
    (perm-path (ap (map to) (sym (table-read n r i.points)) ∙ map-map to (image r) (range 0 n)
    ∙ map_same (λ x. to (image r x)) (λ x. x) (range 0 n) (λ x m. let q = of_range 0 n m in here x (omega arith))
    ∙ map-id (range 0 n))) in
    isomorphism-of-perm all (λ x k.
    let t = perm-place p x k in
    image-of-map n to (image g x) (d x k)
    ∙ ap to (ap (image g) (sym t.1) ∙ sym (i.follows (to x) t.0))
    ∙ here (image f (to x)) (b (to x) t.0)
    ∙ ap (image f) (sym (image-of-map n to x k)))

-- Two maps f and g that are isomorphic to one map: a table that sends each point of f to the point of g with the same origin is an isomorphism.
pub isomorphism-through : {n : ℕ} {m f g a b r : List ℕ} → ((x : ℕ) → x < n → image m x < n) → Isomorphism n m f a → Isomorphism n m g b → length r ≡ n
    → ((j : ℕ) → j < n → image r (image a j) ≡ image b j) → Isomorphism n f g r
isomorphism-through {n} {m} {f} {g} {a} {b} {r} inside i j l h =
    let p = isomorphism-perm i in
    let images : map (image r) a ≡ b =
    ap (map (image r)) (sym (table-read n a i.points))
    ∙ map-map (image r) (image a) (range 0 n)
    ∙ map_same (λ x. image r (image a x)) (image b) (range 0 n) (λ x k. let q = of_range 0 n k in h x (omega arith))
    ∙ table-read n b j.points in
    let all : Perm r (range 0 n) =
    perm-trans (perm-path (sym (table-read n r l)))
    (perm-trans (perm-map (image r) (perm-sym p)) (perm-trans (perm-path images) (isomorphism-perm j))) in
    record {
      points = l;
      once = perm-once n r all;
      follows = λ x k.
          let q = index_of 0 (of-below p k) in
          let y = q.0 in
          let e : image a y ≡ x = q.2 in
          let s : y < n = omega (arith, q.1, i.points) in
          ap (λ z. image r (image f z)) (sym e)
          ∙ ap (image r) (sym (i.follows y s))
          ∙ h (image m y) (inside y s)
          ∙ j.follows y s
          ∙ ap (image g) (sym (h y s))
          ∙ ap (λ z. image g (image r z)) e;
    }
