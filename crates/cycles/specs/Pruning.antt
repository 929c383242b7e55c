-- Pruning a table: points that no point goes to are taken off, as long as there are such. What is left are the points on cycles.
use Rattle.std.specs.Prelude.{◌≡◌, Bool, true, cond, not, ◌&&◌, List, ℕ, zero, suc, ◌+◌, ◌<◌, ◌≤◌, eqb, length, get_or}
use Rattle.patterns.specs.Table.{image, is_table, on_cycle}

-- how many of the numbers below k pass
abbrev pub count_below : (ℕ → Bool) → ℕ → ℕ
count_below p zero = 0
count_below p (suc k) = cond (p k) 1 0 + count_below p k

-- how many of the points that pass go to y
abbrev pub in_degree : List ℕ → (ℕ → Bool) → ℕ → ℕ
in_degree f p y = count_below (λ z. p z && eqb (image f z) y) (length f)

-- degrees has the in-degree of each point of a table of at most 200 points
pub record InDegrees (f degrees : List ℕ) : Type 0 where
  pub table : is_table f ≡ true
  pub small : length f ≤ 200
  pub same : length degrees ≡ length f
  pub counted : (y : ℕ) → y < length f → get_or degrees y 0 ≡ in_degree f (λ z. true) y

-- x is left: a point that is taken off has degree 0
abbrev pub left : List ℕ → ℕ → Bool
left degrees x = not (eqb (get_or degrees x 0) 0)

-- what is left are the points on cycles
pub record Pruned (f degrees : List ℕ) : Type 0 where
  pub same : length degrees ≡ length f
  pub left_are : (x : ℕ) → x < length f → left degrees x ≡ on_cycle (length f) (image f) x

-- what is left is marked by 1, what is taken off by 0
pub record LeftMarked (degrees marks : List ℕ) : Type 0 where
  pub same : length marks ≡ length degrees
  pub marks_are : (x : ℕ) → x < length degrees → get_or marks x 0 ≡ cond (left degrees x) 1 0
