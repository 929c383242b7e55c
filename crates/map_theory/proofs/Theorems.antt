-- The theorems on the code of a map and the map of a code.
use mathlib.Core.Path.{◌≡◌, ap, sym, ◌∙◌}
use mathlib.Core.List.{List, map}
use mathlib.Core.Bool.{true}
use Prim.Native.Nat.{ℕ, ◌<◌}
use lib.ListN.{length}
use Rattle.lists.specs.Sort.{sort}
use Rattle.patterns.specs.Tree.{graft, compare_tree}
use Rattle.patterns.specs.System.{System, weight, canonical}
use Rattle.patterns.specs.Table.{image, is_table, hanging, tree_at, system_of, system_of_table}
use Rattle.patterns.specs.MapOf.{map_of}
use Rattle.patterns.specs.Isomorphism.{Isomorphism}
use Rattle.map_theory.proofs.Pictures.{Plant, all_labels, shapes, Picture}
use Rattle.component_theory.proofs.CanonicalComponents.{canonical-valid}
use Rattle.map_theory.proofs.Shown.{picture-weight, tree-equation-shown, system-shown}
use Rattle.map_theory.proofs.MapOf.{numbered_system, numbered_system-shapes, length-map_of, map_of-table, map_of-picture}
use Rattle.map_theory.proofs.Isomorphisms.{table_below, isomorphism-compose, inverse, isomorphism-inverse}
use Rattle.map_theory.proofs.Renamed.{renamed, renamed-shapes, isomorphic-picture}
use Rattle.map_theory.proofs.Labelled.{picture-isomorphism}
use Rattle.map_theory.proofs.Exists.{picture-exists}

-- the system of the map of a canonical system is that system
pub system-of-map : (S : System) → canonical S ≡ true → system_of_table (map_of S) ≡ S
unfolding system_of_table
system-of-map S e =
    let q = numbered_system-shapes 0 S in
    ap (λ k. system_of k (image (map_of S))) (length-map_of S)
    ∙ system-shown (weight S) (image (map_of S)) (numbered_system 0 S) (map_of-picture S) (ap canonical q ∙ e)
    ∙ q

-- a picture of one map with canonical shapes, renamed by an isomorphism, shows the system of the other
renamed-system : (n : ℕ) (f g r : List ℕ) (pic : List (List Plant)) → length g ≡ n → Picture n (image f) pic → canonical (shapes pic) ≡ true
    → Isomorphism n f g r → system_of_table g ≡ shapes pic
unfolding system_of_table
renamed-system n f g r pic l p e i =
    let q = renamed-shapes (image r) pic in
    ap (λ k. system_of k (image g)) l
    ∙ system-shown n (image g) (map (map (renamed (image r))) pic) (isomorphic-picture n f g r pic p i) (ap canonical q ∙ e)
    ∙ q

-- the one canonical system whose map is isomorphic to f is the system of f
pub canonical-system-unique : (n : ℕ) (S : System) (f r : List ℕ) → canonical S ≡ true → weight S ≡ n → length f ≡ n
    → Isomorphism n (map_of S) f r → system_of_table f ≡ S
canonical-system-unique n S f r e w l i =
    let q = numbered_system-shapes 0 S in
    renamed-system n (map_of S) f r (numbered_system 0 S) l (rw w at (map_of-picture S)) (ap canonical q ∙ e) i ∙ q

module _ (n : ℕ) (f : ℕ → ℕ) (below : (x : ℕ) → x < n → f x < n) where
  -- the trees of the system can be labelled so that every point of the map stands once, at a place where the map says
  pub every-point-once : (pic : List (List Plant)) × Picture n f pic × (shapes pic ≡ system_of n f)
  every-point-once =
      let r = picture-exists n f below in
      (r.0, r.1, sym (system-shown n f r.0 r.1 r.2))

  -- the system of a map is canonical
  pub system-canonical : canonical (system_of n f) ≡ true
  system-canonical =
      let r = picture-exists n f below in
      ap canonical (system-shown n f r.0 r.1 r.2) ∙ r.2

  -- and has all the points
  pub system-weight : weight (system_of n f) ≡ n
  system-weight =
      let r = picture-exists n f below in
      ap weight (system-shown n f r.0 r.1 r.2) ∙ picture-weight n f r.0 r.1

  -- the tree at a point has the trees at the points that hang there as its branches, in order
  pub tree-equation : (x : ℕ) → x < n → tree_at n f x ≡ graft (sort compare_tree (map (tree_at n f) (hanging n f x)))
  tree-equation x h =
      let r = picture-exists n f below in
      tree-equation-shown n f r.0 r.1 (canonical-valid (shapes r.0) r.2) x h

module _ (n : ℕ) (f : List ℕ) (l : length f ≡ n) (t : is_table f ≡ true) where
  below-n : (x : ℕ) → x < n → image f x < n
  below-n = table_below n f l t

  system-at : system_of_table f ≡ system_of n (image f)
  unfolding system_of_table
  system-at = ap (λ k. system_of k (image f)) l

  -- the same for tables
  pub table-canonical : canonical (system_of_table f) ≡ true
  table-canonical = ap canonical system-at ∙ system-canonical n (image f) below-n

  pub table-weight : weight (system_of_table f) ≡ n
  table-weight = ap weight system-at ∙ system-weight n (image f) below-n

  -- a table is isomorphic to the map of its system
  pub isomorphic-to-map-of-system : (r : List ℕ) × Isomorphism n (map_of (system_of_table f)) f r
  isomorphic-to-map-of-system =
      let p = every-point-once n (image f) below-n in
      let e : shapes p.0 ≡ system_of_table f = p.2 ∙ sym system-at in
      (all_labels p.0, rw e at (picture-isomorphism n f p.0 p.1))

-- isomorphic tables have the same system
pub isomorphic-same-system : (n : ℕ) (f g r : List ℕ) → length f ≡ n → is_table f ≡ true → length g ≡ n → Isomorphism n f g r → system_of_table f ≡ system_of_table g
isomorphic-same-system n f g r l t k i =
    let p = every-point-once n (image f) (below-n n f l t) in
    let e : shapes p.0 ≡ system_of_table f = p.2 ∙ sym (system-at n f l t) in
    sym e ∙ sym (renamed-system n f g r p.0 k p.1 (ap canonical e ∙ table-canonical n f l t) i)

-- tables with the same system are isomorphic
pub same-system-isomorphic : (n : ℕ) (f g : List ℕ) → length f ≡ n → is_table f ≡ true → length g ≡ n → is_table g ≡ true
    → system_of_table f ≡ system_of_table g → (r : List ℕ) × Isomorphism n f g r
same-system-isomorphic n f g l t k u e =
    let S = system_of_table f in
    let a = isomorphic-to-map-of-system n f l t in
    let b = isomorphic-to-map-of-system n g k u in
    let m : length (map_of S) ≡ n = length-map_of S ∙ table-weight n f l t in
    let back : Isomorphism n f (map_of S) (inverse n a.0) =
    isomorphism-inverse (table_below n (map_of S) m (map_of-table S)) (below-n n f l t) a.1 in
    let forth : Isomorphism n (map_of S) g b.0 = rw e b.1 in
    (map (image b.0) (inverse n a.0), isomorphism-compose (below-n n f l t) back forth)

-- two tables have the same system exactly if there is an isomorphism
pub same-system-iff : (n : ℕ) (f g : List ℕ) → length f ≡ n → is_table f ≡ true → length g ≡ n → is_table g ≡ true
    → (system_of_table f ≡ system_of_table g → (r : List ℕ) × Isomorphism n f g r)
    × ((r : List ℕ) → Isomorphism n f g r → system_of_table f ≡ system_of_table g)
same-system-iff n f g l t k u = (same-system-isomorphic n f g l t k u, λ r i. isomorphic-same-system n f g r l t k i)
