-- The list of all tables: how long it is, and what stands in it, each table once.
use mathlib.Core.Path.{◌≡◌, ap, sym, ◌∙◌}
use mathlib.Core.Bool.{true}
use mathlib.Core.List.{List, [], ◌∷◌, map, head-eq_of_cons-eq, tail-eq_of_cons-eq}
use Prim.Native.Nat.{ℕ, zero, suc, ◌*◌, ◌^◌, ◌<◌, Ordering}
use native.Mathlib.Nat.{pow-zero, pow-succ'}
use native.Mathlib.Omega.{arith}
use lib.ListN.{length, length-map}
use Rattle.lists.specs.Order.{same}
use Rattle.lists.specs.Select.{range}
use Rattle.lists.proofs.Tests.{◌∈◌, either}
use Rattle.lists.proofs.Permute.{length-keep}
use Rattle.lists.proofs.Members.{NoDup, Decides, in_head, in_tail, in_list, in-single, in-cons-cases, in_map, of_map, in-gather, of-gather, in-range, of_range, not-in-nil, nodup-single, nodup-map, nodup-gather, nodup_range}
use Rattle.lists.proofs.Places.{range_length}
use Rattle.lists.proofs.Gathering.{keep_one}
use Rattle.lists.proofs.EqualPieces.{pieces-length}
use Rattle.patterns.specs.Table.{is_table}
use Rattle.patterns.specs.Isomorphism.{tables}
use Rattle.map_theory.proofs.PointsOnce.{table-member, table-of-members}
use Rattle.counting_theory.specs.Symmetries.{copies}

pub length-tables : (k n : ℕ) → length (tables k n) ≡ n ^ k
length-tables zero n = sym (pow-zero n)
length-tables (suc k) n =
    pieces-length (λ y. map (y ∷◌) (tables k n)) (n ^ k) (range 0 n) (λ y i. length-map (tables k n) (y ∷◌) ∙ length-tables k n)
    ∙ ap (◌* n ^ k) (range_length 0 n)
    ∙ sym (pow-succ' n k)

pub in_tables : (k n : ℕ) (f : List ℕ) → length f ≡ k → ((y : ℕ) → y ∈ f → y < n) → f ∈ tables k n
in_tables zero n [] e h = in_head
in_tables zero n (y ∷ f) e h = absurd (omega arith)
in_tables (suc k) n [] e h = absurd (omega arith)
in_tables (suc k) n (y ∷ f) e h =
    in-gather (λ z. map (z ∷◌) (tables k n)) (in-range 0 n (omega arith) (omega (arith, h y in_head)))
    (in_map (y ∷◌) (in_tables k n f (omega arith) (λ z i. h z (in_tail i))))

pub of-tables : (k n : ℕ) {f : List ℕ} → f ∈ tables k n → (length f ≡ k) × ((y : ℕ) → y ∈ f → y < n)
of-tables zero n i = let e = in-single i in (ap length e, λ y j. not-in-nil (in_list e j))
of-tables (suc k) n i =
    let r = of-gather (λ y. map (y ∷◌) (tables k n)) (range 0 n) i in
    let b = of_range 0 n r.1 in
    let s = of_map (r.0 ∷◌) (tables k n) r.2 in
    let t = of-tables k n s.1 in (
      omega (arith, ap length s.2, t.0),
      λ y j. either (in-cons-cases (in_list s.2 j)) (λ e. omega arith) (t.1 y),
    )

-- f is the table of a map of n points
pub record PointTable (n : ℕ) (f : List ℕ) : Type 0 where
  pub points : length f ≡ n
  pub inside : is_table f ≡ true

-- a list of n points is such a table
pub points-table : {n : ℕ} {f : List ℕ} → length f ≡ n → ((y : ℕ) → y ∈ f → y < n) → PointTable n f
points-table {n} {f} l h = record { points = l; inside = table-of-members n f l h }

pub listed-table : (n : ℕ) {f : List ℕ} → f ∈ tables n n → PointTable n f
listed-table n m = let r = of-tables n n m in points-table r.0 r.1

pub table-listed : (n : ℕ) {f : List ℕ} → PointTable n f → f ∈ tables n n
table-listed n {f} t = in_tables n n f t.points (λ y m. omega (arith, t.points, table-member f t.inside m))

pub tables-nodup : (k n : ℕ) → NoDup (tables k n)
tables-nodup zero n = nodup-single []
tables-nodup (suc k) n =
    nodup-gather (λ y. map (y ∷◌) (tables k n)) (nodup_range 0 n)
    (λ y i. nodup-map (y ∷◌) (λ f g u v e. tail-eq_of_cons-eq e) (tables-nodup k n))
    (λ x y f i j u v. head-eq_of_cons-eq (sym (of_map (x ∷◌) (tables k n) u).2 ∙ (of_map (y ∷◌) (tables k n) v).2))

-- an entry of a list without repetition stands there once
pub copies-once : {A : Type 0} {c : A → A → Ordering} → Decides c → {l : List A} {x : A} → NoDup l → x ∈ l → copies c x l ≡ 1
copies-once {c} w {l} {x} d i =
    sym (length-keep (same c x) l) ∙ ap length (keep_one (same c x) d i (w.self x) (λ y j t. sym (w.sound x y t)))
