-- The trees of last components: ones, and a two at the last place but one.
use mathlib.Core.Path.{◌≡◌, refl, ap, ◌∙◌}
use mathlib.Core.List.{List, ◌∷◌}
use Prim.Native.Nat.{ℕ, zero, suc, ◌-◌, ◌≤◌, ◌<◌}
use native.Mathlib.Omega.{arith}
use lib.ListN.{length, set, replicate, length-replicate}
use Rattle.patterns.specs.Component.{flat}
use Rattle.patterns.proofs.Trees.{length-flat}
use Rattle.component_theory.specs.Successor.{last_component}
use Rattle.component_theory.proofs.LastComponent.{last_component-points}

short : (s : ℕ) → s < 2 → replicate s 1 ≡ flat (last_component s)
unfolding last_component
short zero h = refl
short (suc zero) h = refl
short (suc (suc s)) h = absurd (omega arith)

pair : (i : ℕ) → set (replicate (suc (suc i)) 1) i 2 ≡ flat (last_component (suc (suc i)))
unfolding last_component
pair zero = refl
pair (suc i) = ap (1 ∷◌) (pair i)

long : (s i : ℕ) → s ≡ suc (suc i) → set (replicate s 1) i 2 ≡ flat (last_component s)
long s i e = rw e (pair i)

-- Ones are the trees of the last component of fewer than two points; of more points they are, once the two is there.
module _ (s : ℕ) (l : List ℕ) (e : l ≡ replicate s 1) where
  count : length l ≡ s
  count = ap length e ∙ length-replicate s 1

  pub last-short : length l < 2 → l ≡ flat (last_component s)
  last-short h = e ∙ short s (omega (arith, count))

  pub last-long : 2 ≤ length l → set l (length l - 2) 2 ≡ flat (last_component s)
  last-long h = ap (λ m. set m (length l - 2) 2) e ∙ long s (length l - 2) (omega (arith, count))

-- one for each point
pub length_last : (s : ℕ) → length (flat (last_component s)) ≡ s
length_last s = length-flat (last_component s) ∙ last_component-points s
