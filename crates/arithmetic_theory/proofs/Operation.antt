-- What the sum and the product of tables have in common, and all that the laws of systems and codes need of them.
use mathlib.Core.Path.{◌≡◌}
use mathlib.Core.Bool.{true}
use mathlib.Core.List.{List}
use Prim.Native.Nat.{ℕ}
use lib.ListN.{length}
use Rattle.patterns.specs.Table.{is_table}
use Rattle.patterns.specs.Isomorphism.{Isomorphism}

-- op makes a table of two tables, of so many points as count says; renaming the two renames the result; their order and brackets do not matter but for names
pub record Operation (op : List ℕ → List ℕ → List ℕ) (count : ℕ → ℕ → ℕ) : Type 0 where
  pub counts : (f g : List ℕ) → length (op f g) ≡ count (length f) (length g)
  pub counts_turned : (n m : ℕ) → count n m ≡ count m n
  pub makes_table : (f g : List ℕ) → is_table f ≡ true → is_table g ≡ true → is_table (op f g) ≡ true
  pub renames : (f g f' g' r s : List ℕ) → is_table f ≡ true → is_table g ≡ true → length f' ≡ length f → length g' ≡ length g
      → Isomorphism (length f) f f' r → Isomorphism (length g) g g' s → Isomorphism (length (op f g)) (op f g) (op f' g') (op r s)
  pub exchanges : (f g : List ℕ) → is_table f ≡ true → is_table g ≡ true → (r : List ℕ) × Isomorphism (length (op f g)) (op f g) (op g f) r
  pub associates : (f g h : List ℕ) → op (op f g) h ≡ op f (op g h)
