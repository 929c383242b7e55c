-- The step from a code to the one that follows it in the list of all codes: document 004, Lemma 16 and Theorem 19; document 000, Definition 2.
use Rattle.std.specs.Prelude.{cond, List, [], ◌∷◌, map, ℕ, zero, suc, ◌+◌, ◌-◌, leb, eqb}
use Rattle.std.proofs.Math.Option
use Rattle.std.proofs.Math.Option.{Option, none, some}
use Rattle.lists.specs.Select.{otherwise}
use Rattle.patterns.specs.Component.{Component, points}
pub use Rattle.patterns.specs.Generation.{cycle}
use Rattle.patterns.specs.System.{System}
use Rattle.component_theory.specs.Successor.{neighbour, successor}

-- the least nondecreasing list of numbers from v on with sum n, of at most k + 1 numbers: v while no less than v is left behind it, then what is left
unfoldable pub least_sizes : ℕ → ℕ → ℕ → List ℕ
least_sizes zero v n = n ∷ []
least_sizes (suc k) v n = cond (leb (v + v) n) (v ∷ least_sizes k v (n - v)) (n ∷ [])

-- the next size list: the last two numbers a and b give way to the least list of a + b from a + 1 on
unfoldable pub next_sizes : List ℕ → Option (List ℕ)
unfolding least_sizes
next_sizes [] = none
next_sizes (a ∷ []) = none
next_sizes (a ∷ b ∷ []) = some (least_sizes (a + b) (suc a) (a + b))
next_sizes (a ∷ b ∷ c ∷ l) = Option.map (a ∷◌) (next_sizes (b ∷ c ∷ l))

-- the first component of s points that may stand to the right of d: d again, or where d has not s points the cycle
abbrev pub fill : Component → ℕ → Component
fill d s = cond (eqb (points d) s) d (cycle s)

-- the first way to fill these sizes to the right of d
abbrev pub fills : Component → List ℕ → System
fills d sizes = map (fill d) sizes

-- the next system with the same sizes: the rightmost component that has a successor gives way to it, and the first way to fill the rest follows
unfoldable pub bump : System → Option System
unfolding neighbour
bump [] = none
bump (c ∷ S) = otherwise (Option.map (c ∷◌) (bump S)) (Option.map (λ d. d ∷ fills d (map points S)) (successor c))

-- the next system: with the same sizes, or where there is none the cycles of the next size list
unfoldable pub step : System → Option System
unfolding bump next_sizes
step S = otherwise (bump S) (Option.map (map cycle) (next_sizes (map points S)))
