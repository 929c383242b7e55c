-- Comparing with the library's `cmp` is comparing in the vocabulary of this crate.
use Rattle.std.proofs.Common.{◌≡◌, refl, ap, sym, ◌∙◌, ℕ, List, [], ◌∷◌, arith}
use Prim.Native.Nat.{compare}
use Rattle.std.specs.Str.{bytes_eq}
use Rattle.std.specs.Ordering.{nat_cmp, ordering_then, is_eq}
use Rattle.std.proofs.lemmas.Map.Text.{is_eq-slice_cmp}
use Rattle.std.proofs.Math.Dec.{compare_is_eq}
use Rattle.std.specs.Cmp.Lexicographic.{slice_cmp}
use Rattle.std.specs.declared.cmp.Ordering as cmp
use Rattle.std.specs.declared.cmp.Ordering.TheVariants.{Less, Equal, Greater}
use Rattle.lists.specs.Order.{lex, then, same}
use Rattle.lists.specs.Blocks.{ordering_of}
use Rattle.lists.proofs.Comparison.{by_order, lt-of-compare, gt-of-compare, eq-of-compare}

-- of numbers
pub ordering_of-numbers : (x y : ℕ) → ordering_of (nat_cmp x y) ≡ compare x y
ordering_of-numbers x y =
    by_order (compare x y)
    (λ e. let h = lt-of-compare x y e in rw e (grind arith))
    (λ e. let h = eq-of-compare x y e in rw e (grind arith))
    (λ e. let h = gt-of-compare x y e in rw e (grind arith))

pub ordering_of-then : (o p : cmp.Ordering) → ordering_of (ordering_then o p) ≡ then (ordering_of o) (ordering_of p)
ordering_of-then Less p = refl
ordering_of-then Equal p = refl
ordering_of-then Greater p = refl

-- of lists of numbers
pub ordering_of-lists : (l m : List ℕ) → ordering_of (slice_cmp nat_cmp l m) ≡ lex compare l m
ordering_of-lists [] [] = refl
ordering_of-lists [] (y ∷ m) = refl
ordering_of-lists (x ∷ l) [] = refl
ordering_of-lists (x ∷ l) (y ∷ m) =
    rw (ordering_of-then (nat_cmp x y) (slice_cmp nat_cmp l m), ordering_of-numbers x y, ordering_of-lists l m)

-- whether the library's answer says equal
pub is_eq-ordering_of : (o : cmp.Ordering) → is_eq o ≡ compare_is_eq (ordering_of o)
is_eq-ordering_of Less = refl
is_eq-ordering_of Equal = refl
is_eq-ordering_of Greater = refl

pub same-lists : (l m : List ℕ) → bytes_eq l m ≡ same (lex compare) l m
same-lists l m =
    sym (is_eq-slice_cmp l m) ∙ is_eq-ordering_of (slice_cmp nat_cmp l m) ∙ ap compare_is_eq (ordering_of-lists l m)
