-- Numbers written one after another into a lent output from a place on; and the numbers of a component are not greater than its points.
use mathlib.Core.Path.{◌≡◌, ap, ◌∙◌}
use mathlib.Core.List.{List, [], ◌∷◌, ◌++◌}
use Prim.Native.Nat.{ℕ, zero, suc, ◌+◌, ◌≤◌, ◌<◌}
use native.Mathlib.Nat.{le_of_lt}
use native.Mathlib.Numerals.{add-one}
use native.Mathlib.Omega.{arith}
use lib.ListN.{length, take, get_or, set}
use lib.Seq.{take-suc, length-take-le}
use Rattle.patterns.specs.Tree.{Tree, point, merge, size, below, code}
use Rattle.patterns.specs.Component.{Component, points, flat}
use Rattle.written.specs.Putting.{placed}
use Rattle.written.proofs.Placing.{placed-length, placed_one, placed-more}

-- one more
pub narrow_next : (s d : List ℕ) (at i : ℕ) → i < length s → at + length s ≤ length d
    → set (placed at (take i s) d) (at + i) (get_or s i 0) ≡ placed at (take (i + 1) s) d
narrow_next s d at i h k =
    let e : length (take i s) ≡ i = length-take-le i s (le_of_lt h) in
    let n = placed-length at (take i s) d (omega arith) in
    let q : at + i ≡ at + length (take i s) = omega arith in
    rw (add-one, take-suc s i 0 h)
    (placed_one (placed at (take i s) d) (at + i) (get_or s i 0) (omega arith)
    ∙ ap (λ p. placed p (get_or s i 0 ∷ []) (placed at (take i s) d)) q
    ∙ placed-more at (take i s) (get_or s i 0 ∷ []) d (omega arith))

-- a bound on each of two lists, one after the other
small-append : (k : ℕ) (a b : List ℕ) → ((i : ℕ) → get_or a i 0 ≤ k) → ((i : ℕ) → get_or b i 0 ≤ k) → (i : ℕ) → get_or (a ++ b) i 0 ≤ k
small-append k [] b f g i = g i
small-append k (x ∷ a) b f g zero = f 0
small-append k (x ∷ a) b f g (suc i) = small-append k a b (λ j. f (suc j)) g i

below-small : (t : Tree) (k : ℕ) → size t ≤ k → (i : ℕ) → get_or (below t) i 0 ≤ k
below-small point k h i = omega arith
below-small (merge t u) k h i =
    small-append k (below t) (code u) (λ j. below-small t k (omega arith) j) (first (λ j. below-small u k (omega arith) j)) i
  where
    first : ((i : ℕ) → get_or (below u) i 0 ≤ k) → (i : ℕ) → get_or (code u) i 0 ≤ k
    first f zero = omega arith
    first f (suc i) = f i

code-small : (t : Tree) (k : ℕ) → size t ≤ k → (i : ℕ) → get_or (code t) i 0 ≤ k
code-small t k h zero = h
code-small t k h (suc i) = below-small t k h i

-- no number of a component is greater than its points
pub flat-small : (c : Component) (k : ℕ) → points c ≤ k → (i : ℕ) → get_or (flat c) i 0 ≤ k
flat-small [] k h i = omega arith
flat-small (t ∷ c) k h i = small-append k (code t) (flat c) (code-small t k (omega arith)) (λ j. flat-small c k (omega arith) j) i
