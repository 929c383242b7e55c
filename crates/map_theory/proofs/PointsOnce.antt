-- Tables and isomorphisms by their entries: a table holds points only, an isomorphism holds every point once, so that each point has its place in it.
use mathlib.Core.Path.{◌≡◌, ap, ◌∙◌}
use mathlib.Core.Bool.{true}
use mathlib.Core.List.{List, map}
use Prim.Native.Nat.{ℕ, ◌<◌, compare}
use native.Mathlib.Omega.{arith}
use lib.Dec.{ltb}
use borrow.Author.Tests.{lt-ltb, ltb-true}
use lib.ListN.{length}
use Rattle.lists.specs.Select.{range, place}
use Rattle.lists.proofs.Tests.{◌∈◌, each-true, each_member}
use Rattle.lists.proofs.Permute.{Perm, perm-sym, perm-length}
use Rattle.lists.proofs.Members.{compare-decides, nodup_range}
use Rattle.lists.proofs.Places.{in-index, place-index, place_at, range_length, get_d-range}
use Rattle.lists.proofs.Gathering.{perm-nodup, perm-once, below_of, of-below, get_d_map}
use Rattle.patterns.specs.Table.{image, is_table}
use Rattle.patterns.specs.Isomorphism.{Isomorphism}

-- the entries of a table are points, and a list of points is a table
pub table-member : (f : List ℕ) → is_table f ≡ true → {y : ℕ} → y ∈ f → y < length f
table-member f t {y} m = ltb-true y (length f) (each_member (λ z. ltb z (length f)) t m)

pub table-of-members : (n : ℕ) (f : List ℕ) → length f ≡ n → ((y : ℕ) → y ∈ f → y < n) → is_table f ≡ true
table-of-members n f l h = each-true (λ y. ltb y (length f)) f (λ y m. lt-ltb y (length f) (omega (arith, h y m)))

-- the entries of the table that g gives
pub image-of-map : (n : ℕ) (g : ℕ → ℕ) (x : ℕ) → x < n → image (map g (range 0 n)) x ≡ g x
image-of-map n g x h = get_d_map g (range 0 n) x 0 0 (omega (arith, range_length 0 n)) ∙ ap g (get_d-range 0 n x 0 h ∙ omega arith)

module _ {n : ℕ} {r : List ℕ} (p : Perm r (range 0 n)) where
  -- a permutation of the points: it has n entries, each a point, and each point stands at one place
  pub perm-points : length r ≡ n
  perm-points = perm-length p ∙ range_length 0 n

  pub perm-below : (x : ℕ) → x < n → image r x < n
  perm-below x h = below_of p (in-index r x 0 (omega (arith, perm-points)))

  pub perm-place : (y : ℕ) → y < n → (place compare y r < n) × (image r (place compare y r) ≡ y)
  perm-place y h = let q = place-index compare-decides 0 (of-below p h) in (omega (arith, q.0, perm-points), q.1)

  pub place-image : (x : ℕ) → x < n → place compare (image r x) r ≡ x
  place-image x h = place_at compare-decides 0 x (perm-nodup (perm-sym p) (nodup_range 0 n)) (omega (arith, perm-points))

-- a permutation of the points that follows both maps
pub isomorphism-of-perm : {n : ℕ} {f g r : List ℕ} → Perm r (range 0 n) → ((x : ℕ) → x < n → image r (image f x) ≡ image g (image r x)) → Isomorphism n f g r
isomorphism-of-perm {n} {f} {g} {r} p h = record { points = perm-points p; once = perm-once n r p; follows = h }
