-- The sum of two tables: its points and images; it is a table, renamed with its parts; the order of the parts, brackets and the empty table.
use mathlib.Core.Path.{◌≡◌, refl, ap, subst, sym, ◌∙◌}
use mathlib.Core.Bool.{true}
use mathlib.Core.List.{List, [], ◌++◌, map, map-append, map-map, map-id, append_assoc}
use Prim.Native.Nat.{ℕ, ◌+◌, ◌-◌, ◌≤◌, ◌<◌}
use native.Mathlib.Nat.{zero-add, add_comm}
use native.Mathlib.Omega.{arith}
use lib.Dec.{ltb}
use borrow.Author.Tests.{ltb-true, ltb-false}
use lib.ListN.{length, length-append, length-map, get_or-append}
use lib.Seq.{get_or-append-add}
use Rattle.lists.specs.Select.{range}
use Rattle.lists.proofs.Tests.{by-test, either}
use Rattle.lists.proofs.Permute.{Perm, perm-path, perm-trans, perm-append, perm_append_comm, perm-map, perm-length}
use Rattle.lists.proofs.Members.{in-append-cases, of_map}
use Rattle.lists.proofs.Places.{range_length, range-append, get_d-range}
use Rattle.lists.proofs.Gathering.{map_same, get_d_map}
use Rattle.patterns.specs.Table.{image, is_table}
use Rattle.patterns.specs.Isomorphism.{Isomorphism}
use Rattle.patterns.specs.Arithmetic.{sum_table}
use Rattle.map_theory.proofs.PointsOnce.{table-member, table-of-members, isomorphism-of-perm}
use Rattle.map_theory.proofs.Isomorphisms.{table_below, isomorphism-perm, isomorphism-below}
use Rattle.arithmetic_theory.proofs.Operation.{Operation}
use Rattle.lists.proofs.EqualPieces.{range_moved}

pub sum-points : (f g : List ℕ) → length (sum_table f g) ≡ length f + length g
sum-points f g = length-append f (map (λ y. length f + y) g) ∙ ap (λ k. length f + k) (length-map g (λ y. length f + y))

-- the image of a point of the first table, and of the second
pub sum_left : (f g : List ℕ) (x : ℕ) → x < length f → image (sum_table f g) x ≡ image f x
sum_left f g x h = get_or-append f (map (λ y. length f + y) g) 0 x h

pub sum-right : (f g : List ℕ) {n : ℕ} → length f ≡ n → (y : ℕ) → y < length g → image (sum_table f g) (n + y) ≡ n + image g y
sum-right f g {n} l y h =
    ap (λ k. image (sum_table f g) (k + y)) (sym l)
    ∙ get_or-append-add f (map (λ z. length f + z) g) y 0
    ∙ get_d_map (λ z. length f + z) g y 0 0 h
    ∙ ap (λ k. k + image g y) l

pub sum-table : (f g : List ℕ) → is_table f ≡ true → is_table g ≡ true → is_table (sum_table f g) ≡ true
sum-table f g t u =
    table-of-members (length f + length g) (sum_table f g) (sum-points f g) (λ z m.
    either (in-append-cases f m)
    (λ k. omega (arith, table-member f t k))
    (λ k. let r = of_map (λ y. length f + y) g k in omega (arith, r.2, table-member g u r.1)))

-- the points of a sum: those of the first table, and as many behind them as the second has
by_part : (P : ℕ → Type 0) (n m : ℕ) → ((x : ℕ) → x < n → P x) → ((y : ℕ) → y < m → P (n + y)) → (i : ℕ) → i < n + m → P i
by_part P n m left right i h =
    by-test (ltb i n)
    (λ t. left i (ltb-true i n t))
    (λ t. let k : n ≤ i = ltb-false i n t in
    let e : n + (i - n) ≡ i = omega arith in
    subst P e (right (i - n) (omega arith)))

-- an isomorphism from a sum: what it does with the points of each part
sum-isomorphism : (f g h r : List ℕ) → Perm r (range 0 (length f + length g)) → ((x : ℕ) → x < length f → image r (image f x) ≡ image h (image r x))
    → ((y : ℕ) → y < length g → image r (length f + image g y) ≡ image h (image r (length f + y)))
    → Isomorphism (length (sum_table f g)) (sum_table f g) h r
sum-isomorphism f g h r p left right =
    rw (sum-points f g) (isomorphism-of-perm p
    (by_part (λ x. image r (image (sum_table f g) x) ≡ image h (image r x)) (length f) (length g)
    (λ x b. ap (image r) (sum_left f g x b) ∙ left x b)
    (λ y b. ap (image r) (sum-right f g refl y b) ∙ right y b)))

-- all points of each table in some order: all points of the sum in some order
sum-perm : (n m : ℕ) {r s : List ℕ} → Perm r (range 0 n) → Perm s (range 0 m) → Perm (sum_table r s) (range 0 (n + m))
sum-perm n m {r} {s} p q =
    let l : length r ≡ n = perm-length p ∙ range_length 0 n in
    let moved : map (λ y. length r + y) (range 0 m) ≡ range (0 + n) m = range_moved (length r) m ∙ ap (λ a. range a m) (omega arith) in
    perm-trans (perm-append p (perm-trans (perm-map (λ y. length r + y) q) (perm-path moved))) (perm-path (sym (range-append 0 n m)))

-- the sum of two renamings renames the sum
pub sum-renamed : (f g f' g' r s : List ℕ) → is_table f ≡ true → is_table g ≡ true → length f' ≡ length f → length g' ≡ length g
    → Isomorphism (length f) f f' r → Isomorphism (length g) g g' s → Isomorphism (length (sum_table f g)) (sum_table f g) (sum_table f' g') (sum_table r s)
sum-renamed f g f' g' r s t u l k i j =
    sum-isomorphism f g (sum_table f' g') (sum_table r s) (sum-perm (length f) (length g) (isomorphism-perm i) (isomorphism-perm j))
    (λ x h.
    sum_left r s (image f x) (omega (arith, i.points, table_below (length f) f refl t x h))
    ∙ i.follows x h
    ∙ sym (ap (image (sum_table f' g')) (sum_left r s x (omega (arith, i.points)))
    ∙ sum_left f' g' (image r x) (omega (arith, isomorphism-below i x h))))
    (λ y h.
    sum-right r s i.points (image g y) (omega (arith, j.points, table_below (length g) g refl u y h))
    ∙ ap (λ z. length f + z) (j.follows y h)
    ∙ sym (ap (image (sum_table f' g')) (sum-right r s i.points y (omega (arith, j.points)))
    ∙ sum-right f' g' l (image s y) (omega (arith, isomorphism-below j y h))))

-- n points go behind m others, which go to the front
behind : ℕ → ℕ → List ℕ
behind n m = range m n ++ range 0 m

behind-left : (n m x : ℕ) → x < n → image (behind n m) x ≡ m + x
unfolding behind
behind-left n m x h = get_or-append (range m n) (range 0 m) 0 x (omega (arith, range_length m n)) ∙ get_d-range m n x 0 h

behind-right : (n m y : ℕ) → y < m → image (behind n m) (n + y) ≡ y
unfolding behind
behind-right n m y h =
    ap (λ k. image (behind n m) (k + y)) (sym (range_length m n))
    ∙ get_or-append-add (range m n) (range 0 m) y 0
    ∙ get_d-range 0 m y 0 h
    ∙ zero-add y

behind-perm : (n m : ℕ) → Perm (behind n m) (range 0 (n + m))
unfolding behind
behind-perm n m =
    let e : range 0 m ++ range m n ≡ range 0 (n + m) =
    ap (λ a. range 0 m ++ range a n) (sym (zero-add m)) ∙ sym (range-append 0 m n) ∙ ap (range 0) (add_comm m n) in
    perm-trans (perm_append_comm (range m n) (range 0 m)) (perm-path e)

-- the parts of a sum in the other order
pub sum-exchanged : (f g : List ℕ) → is_table f ≡ true → is_table g ≡ true → (r : List ℕ) × Isomorphism (length (sum_table f g)) (sum_table f g) (sum_table g f) r
sum-exchanged f g t u =
    let n = length f in
    let m = length g in (
      behind n m,
      sum-isomorphism f g (sum_table g f) (behind n m) (behind-perm n m)
          (λ x h.
          behind-left n m (image f x) (table_below n f refl t x h)
          ∙ sym (ap (image (sum_table g f)) (behind-left n m x h) ∙ sum-right g f refl x h))
          (λ y h.
          behind-right n m (image g y) (table_below m g refl u y h)
          ∙ sym (ap (image (sum_table g f)) (behind-right n m y h) ∙ sum_left g f y h)),
    )

-- brackets
pub sum-associates : (f g h : List ℕ) → sum_table (sum_table f g) h ≡ sum_table f (sum_table g h)
sum-associates f g h =
    append_assoc f (map (λ y. length f + y) g) (map (λ z. length (sum_table f g) + z) h)
    ∙ ap (λ l. f ++ (map (λ y. length f + y) g ++ l))
    (map_same (λ z. length (sum_table f g) + z) (λ z. length f + (length g + z)) h (λ z m. omega (arith, sum-points f g))
    ∙ sym (map-map (λ y. length f + y) (λ z. length g + z) h))
    ∙ ap (f ++◌) (sym (map-append (λ y. length f + y) g (map (λ z. length g + z) h)))

-- the empty table as a part
pub sum-empty : (g : List ℕ) → sum_table [] g ≡ g
sum-empty g = map_same (λ y. 0 + y) (λ y. y) g (λ y m. zero-add y) ∙ map-id g

pub sum-operation : Operation sum_table ◌+◌
sum-operation =
    record { counts = sum-points; counts_turned = add_comm; makes_table = sum-table; renames = sum-renamed; exchanges = sum-exchanged; associates = sum-associates }
