-- Two lists compared from an index on.
use mathlib.Core.Path.{◌≡◌, sym, ◌∙◌}
use mathlib.Core.List.{List}
use Prim.Native.Nat.{ℕ, ◌≤◌, min, compare}
use native.Mathlib.Omega.{arith}
use lib.ListN.{length, drop}
use Rattle.std.proofs.Common.{nat_cmp}
use Rattle.lists.specs.Order.{lex}
use Rattle.lists.specs.Blocks.{ordering_of}
use Rattle.lists.proofs.Comparison.{by_order, lt-of-compare, eq-of-compare, gt-of-compare}
use Rattle.lists.proofs.Ordering.{ordering_of-numbers}
use Rattle.lists.proofs.Blocks.{lex-longer, lex-shorter, lex-ended}

-- all before i is equal in both, so the comparison from i on is that of the whole
pub record Compared (s t : List ℕ) (i : ℕ) : Type 0 where
  pub in_s : i ≤ length s
  pub in_t : i ≤ length t
  pub rest : lex compare (drop i s) (drop i t) ≡ lex compare s t

-- at the end of the shorter one the lengths decide
pub compared-end : {s t : List ℕ} {i : ℕ} → Compared s t i → i ≡ min (length s) (length t) → ordering_of (nat_cmp (length s) (length t)) ≡ lex compare s t
compared-end {s} {t} {i} w e =
    ordering_of-numbers (length s) (length t)
    ∙ by_order (compare (length s) (length t))
    (λ o. let l = lt-of-compare (length s) (length t) o in o ∙ sym (lex-shorter s t i (omega arith) (omega arith)) ∙ w.rest)
    (λ o. let l = eq-of-compare (length s) (length t) o in o ∙ sym (lex-ended s t i (omega arith) (omega arith)) ∙ w.rest)
    (λ o. let l = gt-of-compare (length s) (length t) o in o ∙ sym (lex-longer s t i (omega arith) (omega arith)) ∙ w.rest)
