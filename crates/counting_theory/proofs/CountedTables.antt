-- How many tables have a system: over all systems of n points n ^ n together, and for each system n! divided by its symmetries.
use mathlib.Core.Path.{◌≡◌, refl, ap, sym, ◌∙◌}
use mathlib.Core.Bool.{true, cond}
use mathlib.Core.List.{List}
use Prim.Native.Nat.{ℕ, zero, suc, ◌*◌, ◌/◌, ◌^◌, ◌≤◌, ◌<◌}
use native.Mathlib.Omega.{arith}
use native.Mathlib.Nat.{mul-one, mul_comm, mul-pos, lt_of_mul-lt-mul_left, lt_of_mul-lt-mul_right, le-mul_of_pos_right, div-eq_of_eq-mul_left}
use Rattle.lists.specs.Order.{same}
use Rattle.lists.specs.Select.{total, range}
use Rattle.lists.proofs.Tests.{◌∈◌}
use Rattle.lists.proofs.Members.{Decides, lawful-decides, nodup_range}
use Rattle.lists.proofs.Permute.{Perm, total-one, total-same, total-swap, length-keep}
use Rattle.lists.proofs.Places.{range_length}
use Rattle.patterns.specs.System.{System, weight, canonical, codes, compare_system}
use Rattle.patterns.specs.Table.{image, system_of_table}
use Rattle.patterns.specs.MapOf.{map_of}
use Rattle.patterns.specs.Isomorphism.{Isomorphism, tables}
use Rattle.patterns.specs.TableCount.{tables_with}
use Rattle.patterns.proofs.Trees.{compare_system-lawful}
use Rattle.system_theory.proofs.Codes.{codes-different, codes-complete}
use Rattle.map_theory.proofs.MapOf.{length-map_of, map_of-table}
use Rattle.map_theory.proofs.Isomorphisms.{table_below, isomorphism-perm}
use Rattle.map_theory.proofs.Theorems.{table-canonical, table-weight, canonical-system-unique}
use Rattle.counting_theory.specs.Symmetries.{factorial, symmetries}
use Rattle.counting_theory.specs.Renaming.{renamed_table}
use Rattle.counting_theory.proofs.Exactly.{Exactly, exactly-unique, exactly-same, exactly-one, exactly-keep, exactly-pairs}
use Rattle.counting_theory.proofs.Orderings.{exactly-orderings}
use Rattle.counting_theory.proofs.TableLists.{PointTable, length-tables, listed-table, table-listed, tables-nodup, copies-once}
use Rattle.counting_theory.proofs.RenamedTables.{renamed-isomorphism, renamed-table, renamed-only}
use Rattle.counting_theory.proofs.CountedIsomorphisms.{exactly-isomorphisms}

systems-decide : Decides compare_system
systems-decide = lawful-decides compare_system-lawful

-- the system of a table stands in the list of all systems
system-listed : (n : ℕ) {f : List ℕ} → PointTable n f → system_of_table f ∈ codes n
system-listed n {f} t =
    rw (table-weight n f t.points t.inside) at (codes-complete (system_of_table f) (table-canonical n f t.points t.inside))

-- "added over the whole list, these numbers make n to the power n" [document 02, paper 7], 0 to the power 0 being 1
pub tables-of-codes : (n : ℕ) → total (tables_with n) (codes n) ≡ n ^ n
unfolding tables_with
tables-of-codes n =
    let has : System → List ℕ → ℕ = λ S f. cond (same compare_system (system_of_table f) S) 1 0 in
    total-same (tables_with n) (λ S. total (has S) (tables n n)) (codes n) (λ S m. length-keep (λ f. same compare_system (system_of_table f) S) (tables n n))
    ∙ total-swap has (codes n) (tables n n)
    ∙ total-same (λ f. total (λ S. has S f) (codes n)) (λ f. 1) (tables n n)
    (λ f m. copies-once systems-decide (codes-different n) (system-listed n (listed-table n m)))
    ∙ total-one (tables n n)
    ∙ length-tables n n

-- f is a table of n points with the system S
pub record Has (n : ℕ) (S : System) (f : List ℕ) : Type 0 where
  pub table : PointTable n f
  pub code : system_of_table f ≡ S

pub exactly-tables : (n : ℕ) (S : System) → Exactly (Has n S) (tables_with n S)
unfolding tables_with
exactly-tables n S =
    exactly-same
    (λ f q. record { table = listed-table n q.0; code = systems-decide.sound (system_of_table f) S q.1 })
    (λ f h. (table-listed n h.table, ap (λ R. same compare_system R S) h.code ∙ systems-decide.self S))
    (exactly-keep (λ f. same compare_system (system_of_table f) S) (tables-nodup n n))

-- a table of n points and an isomorphism from m to it
record Named (n : ℕ) (m : List ℕ) (z : List ℕ × List ℕ) : Type 0 where
  pub table : PointTable n z.0
  pub isomorphism : Isomorphism n m z.0 z.1

-- an order of the points is an isomorphism to just one table
one_table : (n : ℕ) (m : List ℕ) → ((x : ℕ) → x < n → image m x < n) → (r : List ℕ) → Perm r (range 0 n) → Exactly (λ f. Named n m (f, r)) 1
one_table n m below r p =
    exactly-one (renamed_table n m r) (record { table = renamed-table m p below; isomorphism = renamed-isomorphism m p })
    (λ f z. renamed-only m p f z.table.points z.isomorphism)

-- these pairs, counted by the isomorphism
pairs-by-order : (n : ℕ) (m : List ℕ) → ((x : ℕ) → x < n → image m x < n) → Exactly (Named n m) (factorial n * 1)
pairs-by-order n m below =
    exactly-pairs {P = λ r. Perm r (range 0 n)} {Q = λ r f. Named n m (f, r)} (λ r f. (f, r))
    (λ r p. one_table n m below r p)
    (λ r s f g p q u v e. ap (λ z. z.1) e)
    (λ r f g p u v e. ap (λ z. z.0) e)
    (exactly-orderings n (range 0 n) (nodup_range 0 n) (range_length 0 n))
    (λ r f p u. u)
    (λ z u. (z.1, z.0, isomorphism-perm u.isomorphism, u, refl))

-- and by the table
pairs-by-table : (n : ℕ) (S : System) → canonical S ≡ true → weight S ≡ n → Exactly (Named n (map_of S)) (tables_with n S * symmetries S)
pairs-by-table n S e w =
    exactly-pairs {P = Has n S} {Q = Isomorphism n (map_of S)} (λ f r. (f, r))
    (λ f h. exactly-isomorphisms n S f e w h.table.points h.table.inside h.code)
    (λ f g r s h k i j q. ap (λ z. z.0) q)
    (λ f r s h i j q. ap (λ z. z.1) q)
    (exactly-tables n S)
    (λ f r h i. record { table = h.table; isomorphism = i })
    (λ z u.
    let code = canonical-system-unique n S z.0 z.1 e w u.table.points u.isomorphism in
    (z.0, z.1, record { table = u.table; code = code }, u.isomorphism, refl))

-- the tables with a system, times its symmetries, are all orders of the points
pub tables-symmetries : (n : ℕ) (S : System) → canonical S ≡ true → weight S ≡ n → tables_with n S * symmetries S ≡ factorial n
tables-symmetries n S e w =
    exactly-unique (pairs-by-table n S e w) (pairs-by-order n (map_of S) (table_below n (map_of S) (length-map_of S ∙ w) (map_of-table S)))
    ∙ mul-one (factorial n)

factorial-positive : (n : ℕ) → 0 < factorial n
factorial-positive zero = omega arith
factorial-positive (suc n) = mul-pos {m = suc n} (omega arith) (factorial-positive n)

module _ (n : ℕ) (S : System) (e : canonical S ≡ true) (w : weight S ≡ n) where
  pairs-positive : 0 < tables_with n S * symmetries S
  pairs-positive = rw (tables-symmetries n S e w) (factorial-positive n)

  tables-positive : 0 < tables_with n S
  tables-positive = lt_of_mul-lt-mul_right (symmetries S) (omega (arith, pairs-positive))

  pub symmetries-positive : 0 < symmetries S
  symmetries-positive = lt_of_mul-lt-mul_left (tables_with n S) (omega (arith, pairs-positive))

  pub symmetries-bound : symmetries S ≤ factorial n
  symmetries-bound =
      rw (mul_comm (symmetries S) (tables_with n S), tables-symmetries n S e w) at (le-mul_of_pos_right (symmetries S) tables-positive)

  pub tables-quotient : tables_with n S ≡ factorial n / symmetries S
  tables-quotient = sym (div-eq_of_eq-mul_left symmetries-positive (sym (tables-symmetries n S e w)))
