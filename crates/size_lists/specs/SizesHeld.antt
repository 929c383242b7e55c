-- What the functions of this crate ask of lent slices, and what their answers mean. A system in memory is two slices (`Holds` of crate memory).
use Rattle.std.specs.Prelude.{◌≡◌, true, cond, List, ℕ, ◌≤◌, ◌<◌, ltb, eqb, length, take, replicate, Some, None, Option as Number}
use Rattle.std.proofs.Math.Option.{Option, none, some}
use Rattle.lists.specs.Select.{each, total}

abbrev pub sum : List ℕ → ℕ
sum l = total (λ s. s) l

-- the first m places hold positive sizes, and there are as many places as all of them have points, 200 at most
pub record SizesIn (sizes : List ℕ) (m : ℕ) : Type 0 where
  pub within : m ≤ length sizes
  pub positive : each (ltb 0) (take m sizes) ≡ true
  pub room : sum (take m sizes) ≤ length sizes
  pub small : length sizes ≤ 200

-- the first r places hold the list that there is, where the answer is r, and there is none where it is None
abbrev pub NextIn : Option (List ℕ) → Number ℕ → List ℕ → Type 0
NextIn none None sizes = Unit {0}
NextIn none (Some r) sizes = ⊥
NextIn (some l) None sizes = ⊥
NextIn (some l) (Some r) sizes = (0 < r) × (r ≤ length sizes) × (take r sizes ≡ l)

-- the trees of a component of s points to the right of the one with the trees d: these again, or where they have not s points the cycle's
abbrev pub fill_trees : List ℕ → ℕ → List ℕ
fill_trees d s = cond (eqb (length d) s) d (replicate s 1)
