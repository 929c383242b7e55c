-- The product of two tables: its points and images; it is a table, renamed with its factors; the order of the factors, brackets, products of sums, and the single fixed point.
use mathlib.Core.Path.{◌≡◌, refl, ap, ap₂, sym, ◌∙◌}
use mathlib.Core.Bool.{true}
use mathlib.Core.List.{List, [], ◌∷◌, ◌++◌, map, map-map, map-id, append-nil}
use Prim.Native.Nat.{ℕ, ◌+◌, ◌*◌, ◌<◌}
use native.Mathlib.Nat.{zero-mul, mul_comm, mul_assoc, add-mul}
use native.Mathlib.Omega.{arith}
use lib.ListN.{length, get_or, length-map}
use Rattle.lists.specs.Select.{gather, range}
use Rattle.lists.proofs.Permute.{Perm, perm-path, perm-trans, perm-map, perm-gather, perm-gather-each, perm-length}
use Rattle.lists.proofs.Members.{of_map, of-gather, gather_append}
use Rattle.lists.proofs.Places.{range_length, get_d-range}
use Rattle.lists.proofs.Gathering.{map_same, map-gather, gather-gather, gather-map, gather-same, get_d_map}
use Rattle.patterns.specs.Table.{image, is_table}
use Rattle.patterns.specs.Isomorphism.{Isomorphism}
use Rattle.patterns.specs.Arithmetic.{sum_table, product_table}
use Rattle.map_theory.proofs.PointsOnce.{table-member, table-of-members, isomorphism-of-perm}
use Rattle.map_theory.proofs.Isomorphisms.{table_below, isomorphism-perm, isomorphism-below}
use Rattle.arithmetic_theory.proofs.Operation.{Operation}
use Rattle.lists.proofs.EqualPieces.{pieces-length, piece-at, perm-columns, pairs-range, pair-below, by-pair}

-- the pairs of x and the entries of g
abbrev pairs_with : List ℕ → ℕ → List ℕ
pairs_with g x = map (λ y. x * length g + y) g

pub product-points : (f g : List ℕ) → length (product_table f g) ≡ length f * length g
product-points f g = pieces-length (pairs_with g) (length g) f (λ x k. length-map g (λ y. x * length g + y))

-- the image of a pair is the pair of the images
pub product_at : (f g : List ℕ) {m : ℕ} → length g ≡ m → (x y : ℕ) → x < length f → y < m → image (product_table f g) (x * m + y) ≡ image f x * m + image g y
product_at f g {m} l x y h k =
    piece-at (pairs_with g) m f (λ z i. length-map g (λ y. z * length g + y) ∙ l) 0 0 x y h k
    ∙ get_d_map (λ z. image f x * length g + z) g y 0 0 (omega arith)
    ∙ ap (λ c. image f x * c + image g y) l

pub product-table : (f g : List ℕ) → is_table f ≡ true → is_table g ≡ true → is_table (product_table f g) ≡ true
product-table f g t u =
    table-of-members (length f * length g) (product_table f g) (product-points f g) (λ z m.
    let p = of-gather (pairs_with g) f m in
    let q = of_map (λ y. p.0 * length g + y) g p.2 in
    omega (arith, q.2, pair-below (table-member f t p.1) (table-member g u q.1)))

-- an isomorphism from a product: what it does with the pairs
product-isomorphism : (f g h r : List ℕ) → Perm r (range 0 (length f * length g))
    → ((x y : ℕ) → x < length f → y < length g → image r (image f x * length g + image g y) ≡ image h (image r (x * length g + y)))
    → Isomorphism (length (product_table f g)) (product_table f g) h r
product-isomorphism f g h r p pairs =
    rw (product-points f g) (isomorphism-of-perm p
    (by-pair (λ x. image r (image (product_table f g) x) ≡ image h (image r x)) (length f) (length g)
    (λ x y b c. ap (image r) (product_at f g refl x y b c) ∙ pairs x y b c)))

-- all points of each table in some order: all pairs in some order
product-perm : (n m : ℕ) {r s : List ℕ} → Perm r (range 0 n) → Perm s (range 0 m) → Perm (product_table r s) (range 0 (n * m))
product-perm n m {r} {s} p q =
    let pairs : ℕ → List ℕ = λ x. map (λ y. x * m + y) (range 0 m) in
    let l : length s ≡ m = perm-length q ∙ range_length 0 m in
    perm-trans (perm-gather-each (pairs_with s) pairs r (λ x k.
    perm-trans (perm-map (λ y. x * length s + y) q) (perm-path (ap (λ c. map (λ y. x * c + y) (range 0 m)) l))))
    (perm-trans (perm-gather pairs p) (perm-path (pairs-range n m)))

-- the product of two renamings renames the product
pub product-renamed : (f g f' g' r s : List ℕ) → is_table f ≡ true → is_table g ≡ true → length f' ≡ length f → length g' ≡ length g
    → Isomorphism (length f) f f' r → Isomorphism (length g) g g' s
    → Isomorphism (length (product_table f g)) (product_table f g) (product_table f' g') (product_table r s)
product-renamed f g f' g' r s t u l k i j =
    let n = length f in
    let m = length g in
    product-isomorphism f g (product_table f' g') (product_table r s) (product-perm n m (isomorphism-perm i) (isomorphism-perm j))
    (λ x y h b.
    product_at r s j.points (image f x) (image g y) (omega (arith, i.points, table_below n f refl t x h)) (table_below m g refl u y b)
    ∙ ap₂ (λ v w. v * m + w) (i.follows x h) (j.follows y b)
    ∙ sym (ap (image (product_table f' g')) (product_at r s j.points x y (omega (arith, i.points)) b)
    ∙ product_at f' g' k (image r x) (image s y) (omega (arith, isomorphism-below i x h)) (isomorphism-below j y b)))

-- the pair of x and y goes to the pair of y and x
turned : ℕ → ℕ → List ℕ
turned n m = gather (λ x. map (λ y. y * n + x) (range 0 m)) (range 0 n)

turned-at : (n m x y : ℕ) → x < n → y < m → image (turned n m) (x * m + y) ≡ y * n + x
unfolding turned
turned-at n m x y h k =
    piece-at (λ x. map (λ y. y * n + x) (range 0 m)) m (range 0 n) (λ z i. length-map (range 0 m) (λ y. y * n + z) ∙ range_length 0 m)
    0 0 x y (omega (arith, range_length 0 n)) k
    ∙ get_d_map (λ y. y * n + get_or (range 0 n) x 0) (range 0 m) y 0 0 (omega (arith, range_length 0 m))
    ∙ ap₂ (λ a b. a * n + b) (get_d-range 0 m y 0 k ∙ omega arith) (get_d-range 0 n x 0 h ∙ omega arith)

turned-perm : (n m : ℕ) → Perm (turned n m) (range 0 (n * m))
unfolding turned
turned-perm n m =
    perm-trans (perm-columns (λ x y. y * n + x) (range 0 n) (range 0 m))
    (perm-path (pairs-range m n ∙ ap (range 0) (mul_comm m n)))

-- the factors in the other order
pub product-exchanged : (f g : List ℕ) → is_table f ≡ true → is_table g ≡ true
    → (r : List ℕ) × Isomorphism (length (product_table f g)) (product_table f g) (product_table g f) r
product-exchanged f g t u =
    let n = length f in
    let m = length g in (
      turned n m,
      product-isomorphism f g (product_table g f) (turned n m) (turned-perm n m) (λ x y h k.
          turned-at n m (image f x) (image g y) (table_below n f refl t x h) (table_below m g refl u y k)
          ∙ sym (ap (image (product_table g f)) (turned-at n m x y h k) ∙ product_at g f refl y x k h)),
    )

-- the first factor moved by a: the product moves by n = a * length h
product-moved : (a n : ℕ) (g h : List ℕ) → n ≡ a * length h → product_table (map (λ y. a + y) g) h ≡ map (λ v. n + v) (product_table g h)
product-moved a n g h e =
    gather-map (pairs_with h) (λ y. a + y) g
    ∙ gather-same (λ y. pairs_with h (a + y)) (λ y. map (λ v. n + v) (pairs_with h y)) g (λ y i.
    map_same (λ z. (a + y) * length h + z) (λ z. n + (y * length h + z)) h (λ z j. omega (arith, add-mul a y (length h)))
    ∙ sym (map-map (λ v. n + v) (λ z. y * length h + z) h))
    ∙ sym (map-gather (λ v. n + v) (pairs_with h) g)

-- brackets
pub product-associates : (f g h : List ℕ) → product_table (product_table f g) h ≡ product_table f (product_table g h)
product-associates f g h =
    gather-gather (pairs_with h) (pairs_with g) f
    ∙ gather-same (λ x. gather (pairs_with h) (pairs_with g x)) (pairs_with (product_table g h)) f (λ x i.
    product-moved (x * length g) (x * length (product_table g h)) g h (ap (x *◌) (product-points g h) ∙ sym (mul_assoc x (length g) (length h))))

-- the product of a sum is the sum of the products
pub product-of-sum : (f g h : List ℕ) → product_table (sum_table f g) h ≡ sum_table (product_table f h) (product_table g h)
product-of-sum f g h =
    gather_append (pairs_with h) f (map (λ y. length f + y) g)
    ∙ ap (product_table f h ++◌) (product-moved (length f) (length (product_table f h)) g h (product-points f h))

-- the single fixed point as a factor
pub product-one : (g : List ℕ) → product_table (0 ∷ []) g ≡ g
product-one g =
    append-nil (pairs_with g 0)
    ∙ map_same (λ y. 0 * length g + y) (λ y. y) g (λ y m. omega (arith, zero-mul (length g)))
    ∙ map-id g

pub product-operation : Operation product_table ◌*◌
product-operation =
    record { counts = product-points; counts_turned = mul_comm; makes_table = product-table; renames = product-renamed; exchanges = product-exchanged; associates = product-associates }
