-- There are few codes: no more than there are tables.
use mathlib.Core.Path.{◌≡◌, ap, ap₂, sym, ◌∙◌}
use mathlib.Core.Bool.{true}
use mathlib.Core.List.{List, [], ◌∷◌, map}
use Prim.Native.Nat.{ℕ, zero, suc, ◌+◌, ◌*◌, ◌^◌, ◌≤◌}
use native.Mathlib.Nat.{add_comm, le_trans, suc-mul, pow-zero, pow-succ', pow-le-pow_left, pow-le-pow_right}
use native.Mathlib.Omega.{arith}
use lib.Dec.{ltb}
use lib.ListN.{length, length-append, length-map}
use borrow.Author.Tests.{ltb-true}
use Rattle.lists.specs.Select.{each, gather, range}
use Rattle.lists.proofs.Tests.{◌∈◌, each-head, each_tail}
use Rattle.lists.proofs.Members.{in_head, in_moved, in-range, in_map, of_map, in-gather, nodup-map}
use Rattle.lists.proofs.Places.{range_length}
use Rattle.lists.proofs.Pigeon.{inside-length}
use Rattle.patterns.specs.System.{System, codes}
use Rattle.patterns.specs.Table.{system_of_table}
use Rattle.patterns.specs.MapOf.{map_of}
use Rattle.system_theory.proofs.Codes.{codes-sound, codes-different}
use Rattle.map_theory.proofs.MapOf.{length-map_of, map_of-table}
use Rattle.map_theory.proofs.Theorems.{system-of-map}

-- the lists of k numbers below n
unfoldable tables : ℕ → ℕ → List (List ℕ)
tables n zero = [] ∷ []
tables n (suc k) = gather (λ x. map (x ∷◌) (tables n k)) (range 0 n)

gather-length : (l : List ℕ) (m : List (List ℕ)) → length (gather (λ x. map (x ∷◌) m) l) ≡ length l * length m
gather-length [] m = omega arith
gather-length (x ∷ l) m =
    length-append (map (x ∷◌) m) (gather (λ x. map (x ∷◌) m) l)
    ∙ ap₂ ◌+◌ (length-map m (x ∷◌)) (gather-length l m)
    ∙ add_comm (length m) (length l * length m)
    ∙ sym (suc-mul (length l) (length m))

tables-length : (n k : ℕ) → length (tables n k) ≡ n ^ k
unfolding tables
tables-length n zero = sym (pow-zero n)
tables-length n (suc k) =
    gather-length (range 0 n) (tables n k)
    ∙ ap₂ ◌*◌ (range_length 0 n) (tables-length n k)
    ∙ sym (pow-succ' n k)

-- each list of k numbers below n is one of them
in_tables : (n : ℕ) (l : List ℕ) → each (λ x. ltb x n) l ≡ true → l ∈ tables n (length l)
unfolding tables
in_tables n [] e = in_head
in_tables n (x ∷ l) e =
    let h = each-head (λ y. ltb y n) x l e in
    let t = each_tail (λ y. ltb y n) x l e in
    in-gather (λ y. map (y ∷◌) (tables n (length l))) (in-range 0 n (omega arith) (omega (arith, ltb-true x n h))) (in_map (x ∷◌) (in_tables n l t))

-- a code's map tells it from the others
one-system : (n : ℕ) (S R : System) → S ∈ codes n → R ∈ codes n → map_of S ≡ map_of R → S ≡ R
one-system n S R i j e = sym (system-of-map S (codes-sound n S i).0) ∙ ap system_of_table e ∙ system-of-map R (codes-sound n R j).0

map-in-tables : (n : ℕ) (S : System) → S ∈ codes n → map_of S ∈ tables n n
map-in-tables n S m =
    let points : length (map_of S) ≡ n = length-map_of S ∙ (codes-sound n S m).1 in
    let table : each (λ y. ltb y n) (map_of S) ≡ true = rw points at (map_of-table S) in
    rw points at (in_tables n (map_of S) table)

-- up to 14 points there are no more codes than tables
pub codes-few : (n : ℕ) → n ≤ 14 → length (codes n) ≤ 14 ^ 14
codes-few n h =
    let inside = inside-length (nodup-map map_of (one-system n) (codes-different n))
    (λ f m. let s = of_map map_of (codes n) m in in_moved (sym s.2) (map-in-tables n s.0 s.1)) in
    let powers : n ^ n ≤ 14 ^ 14 = le_trans (pow-le-pow_left h n) (pow-le-pow_right (omega arith) h) in
    omega (arith, inside, length-map (codes n) map_of, tables-length n n, powers)
