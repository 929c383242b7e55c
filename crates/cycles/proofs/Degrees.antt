-- Counting the in-degrees of a table, point by point.
use mathlib.Core.Path.{◌≡◌}
use mathlib.Core.Bool.{true}
use mathlib.Core.List.{List}
use Prim.Native.Nat.{ℕ, ◌≤◌, ◌<◌}
use lib.Dec.{eqb}
use lib.ListN.{length, get_or}
use Rattle.patterns.specs.Table.{image, is_table}
use Rattle.cycles.specs.Pruning.{count_below}
use Rattle.cycles.proofs.CountBelow.{count-within}
use Rattle.cycles.proofs.Marks.{inside}

-- the points below x are counted
pub record Counting (f degrees : List ℕ) (x : ℕ) : Type 0 where
  pub same : length degrees ≡ length f
  pub passed : x ≤ length f
  pub counted : (y : ℕ) → y < length f → get_or degrees y 0 ≡ count_below (λ z. eqb (image f z) y) x

module _ {f degrees : List ℕ} {x : ℕ} (c : Counting f degrees x) where
  module _ (table : is_table f ≡ true) (h : x < length f) where
    pub counting-place : image f x < length degrees
    counting-place = rw c.same (inside f table x h)

    -- no more than the points that are counted
    pub counting-bound : get_or degrees (image f x) 0 ≤ x
    counting-bound = rw (c.counted (image f x) (inside f table x h)) (count-within (λ z. eqb (image f z) (image f x)) x)
