-- The laws of sums and products of systems, of any size: both depend on the two patterns only, are commutative and associative, and the product distributes over the
-- sum; the empty system is neutral for the sum, and the single fixed point for the product.
use mathlib.Core.Path.{◌≡◌, refl, ap, ap₂, sym, ◌∙◌}
use mathlib.Core.Bool.{true}
use mathlib.Core.List.{List}
use Prim.Native.Nat.{ℕ, ◌+◌, ◌*◌}
use lib.ListN.{length}
use Rattle.patterns.specs.System.{System, weight, canonical}
use Rattle.patterns.specs.Table.{is_table, system_of_table}
use Rattle.patterns.specs.MapOf.{map_of}
use Rattle.patterns.specs.Arithmetic.{sum_table, product_table, sum_of, product_of, empty_system, fixed_point}
use Rattle.map_theory.proofs.MapOf.{length-map_of, map_of-table}
use Rattle.map_theory.proofs.Theorems.{system-of-map, table-canonical, table-weight}
use Rattle.arithmetic_theory.proofs.Operation.{Operation}
use Rattle.arithmetic_theory.proofs.Sums.{sum-operation, sum-empty}
use Rattle.arithmetic_theory.proofs.Products.{product-operation, product-one, product-of-sum}
use Rattle.arithmetic_theory.proofs.SamePatterns.{SamePattern, pattern-self, pattern-of-map, made_alike, made-in-turn}

-- the system that an operation makes of two
abbrev pub made : (List ℕ → List ℕ → List ℕ) → System → System → System
made op S T = system_of_table (op (map_of S) (map_of T))

map-itself : (S : System) → SamePattern (map_of S) (map_of S)
map-itself S = pattern-self (map_of S) (map_of-table S)

module _ {op : List ℕ → List ℕ → List ℕ} {count : ℕ → ℕ → ℕ} (o : Operation op count) where
  pub made_table : (S T : System) → is_table (op (map_of S) (map_of T)) ≡ true
  made_table S T = o.makes_table (map_of S) (map_of T) (map_of-table S) (map_of-table T)

  pub made-canonical : (S T : System) → canonical (made op S T) ≡ true
  made-canonical S T = table-canonical (length (op (map_of S) (map_of T))) (op (map_of S) (map_of T)) refl (made_table S T)

  pub made-weight : (S T : System) → weight (made op S T) ≡ count (weight S) (weight T)
  made-weight S T =
      table-weight (length (op (map_of S) (map_of T))) (op (map_of S) (map_of T)) refl (made_table S T)
      ∙ o.counts (map_of S) (map_of T)
      ∙ ap₂ count (length-map_of S) (length-map_of T)

  -- whatever tables have the two systems
  pub made-systems : (f g : List ℕ) → is_table f ≡ true → is_table g ≡ true → system_of_table (op f g) ≡ made op (system_of_table f) (system_of_table g)
  made-systems f g t u = sym (made_alike o (pattern-of-map f t) (pattern-of-map g u)).systems

  pub made-commutes : (S T : System) → made op S T ≡ made op T S
  made-commutes S T = (made-in-turn o (map_of S) (map_of T) (map_of-table S) (map_of-table T)).systems

  -- the map of a system that was made, and what it was made of
  map-of-made : (S T : System) → SamePattern (map_of (made op S T)) (op (map_of S) (map_of T))
  map-of-made S T = pattern-of-map (op (map_of S) (map_of T)) (made_table S T)

  pub made-associative : (S T U : System) → made op (made op S T) U ≡ made op S (made op T U)
  made-associative S T U =
      (made_alike o (map-of-made S T) (map-itself U)).systems
      ∙ ap system_of_table (o.associates (map_of S) (map_of T) (map_of U))
      ∙ sym (made_alike o (map-itself S) (map-of-made T U)).systems

-- What is made is canonical, and has the points of both together, or as many as there are pairs.
pub sum-canonical : (S T : System) → canonical (sum_of S T) ≡ true
unfolding sum_of
sum-canonical = made-canonical sum-operation

pub product-canonical : (S T : System) → canonical (product_of S T) ≡ true
unfolding product_of
product-canonical = made-canonical product-operation

pub sum-weight : (S T : System) → weight (sum_of S T) ≡ weight S + weight T
unfolding sum_of
sum-weight = made-weight sum-operation

pub product-weight : (S T : System) → weight (product_of S T) ≡ weight S * weight T
unfolding product_of
product-weight = made-weight product-operation

-- It depends on the two patterns only: whatever tables have the two systems ..
pub sum-systems : (f g : List ℕ) → is_table f ≡ true → is_table g ≡ true → system_of_table (sum_table f g) ≡ sum_of (system_of_table f) (system_of_table g)
unfolding sum_of
sum-systems = made-systems sum-operation

pub product-systems : (f g : List ℕ) → is_table f ≡ true → is_table g ≡ true → system_of_table (product_table f g) ≡ product_of (system_of_table f) (system_of_table g)
unfolding product_of
product-systems = made-systems product-operation

-- .. and tables of the same two patterns make tables of one pattern.
pub sum-patterns : {f f' g g' : List ℕ} → SamePattern f f' → SamePattern g g' → SamePattern (sum_table f g) (sum_table f' g')
sum-patterns = made_alike sum-operation

pub product-patterns : {f f' g g' : List ℕ} → SamePattern f f' → SamePattern g g' → SamePattern (product_table f g) (product_table f' g')
product-patterns = made_alike product-operation

-- Order and brackets do not matter.
pub sum-commutes : (S T : System) → sum_of S T ≡ sum_of T S
unfolding sum_of
sum-commutes = made-commutes sum-operation

pub product-commutes : (S T : System) → product_of S T ≡ product_of T S
unfolding product_of
product-commutes = made-commutes product-operation

pub sum-associative : (S T U : System) → sum_of (sum_of S T) U ≡ sum_of S (sum_of T U)
unfolding sum_of
sum-associative = made-associative sum-operation

pub product-associative : (S T U : System) → product_of (product_of S T) U ≡ product_of S (product_of T U)
unfolding product_of
product-associative = made-associative product-operation

-- The product of a sum is the sum of the products.
pub product-distributes : (S T U : System) → product_of (sum_of S T) U ≡ sum_of (product_of S U) (product_of T U)
unfolding sum_of product_of
product-distributes S T U =
    (made_alike product-operation (map-of-made sum-operation S T) (map-itself U)).systems
    ∙ ap system_of_table (product-of-sum (map_of S) (map_of T) (map_of U))
    ∙ sym (made_alike sum-operation (map-of-made product-operation S U) (map-of-made product-operation T U)).systems

pub product-distributes-left : (S T U : System) → product_of S (sum_of T U) ≡ sum_of (product_of S T) (product_of S U)
product-distributes-left S T U =
    product-commutes S (sum_of T U) ∙ product-distributes T U S ∙ ap₂ sum_of (product-commutes T S) (product-commutes U S)

-- The neutral systems, and products with the empty system.
pub sum-neutral : (S : System) → canonical S ≡ true → sum_of empty_system S ≡ S
unfolding sum_of
sum-neutral S c = ap system_of_table (sum-empty (map_of S)) ∙ system-of-map S c

pub sum-neutral-right : (S : System) → canonical S ≡ true → sum_of S empty_system ≡ S
sum-neutral-right S c = sum-commutes S empty_system ∙ sum-neutral S c

pub product-neutral : (S : System) → canonical S ≡ true → product_of fixed_point S ≡ S
unfolding product_of
product-neutral S c = ap system_of_table (product-one (map_of S)) ∙ system-of-map S c

pub product-neutral-right : (S : System) → canonical S ≡ true → product_of S fixed_point ≡ S
product-neutral-right S c = product-commutes S fixed_point ∙ product-neutral S c

pub product-empty : (S : System) → product_of empty_system S ≡ empty_system
unfolding product_of
product-empty S = refl

pub product-empty-right : (S : System) → product_of S empty_system ≡ empty_system
product-empty-right S = product-commutes S empty_system ∙ product-empty S
