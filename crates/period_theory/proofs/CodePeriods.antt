-- The period of a map from its code, in which a cycle is a component and its length the number of trees.
use mathlib.Core.Path.{◌≡◌, ◌∙◌}
use mathlib.Core.List.{map}
use Prim.Native.Nat.{ℕ, ◌<◌}
use lib.ListN.{length}
use Rattle.lists.proofs.Permute.{perm-sym}
use Rattle.patterns.specs.Table.{system_of}
use Rattle.patterns.specs.Period.{period}
use Rattle.map_theory.proofs.CensusTheory.{cycle_lengths-positive}
use Rattle.map_theory.proofs.Occurring.{trees-lengths}
use Rattle.period_theory.specs.Multiples.{lcm_from}
use Rattle.period_theory.proofs.CommonMultiples.{lcms-perm}
use Rattle.period_theory.proofs.TriedPeriods.{period-is-lcm}

-- the period of a map is the least common multiple of the numbers of trees of the components of its system
pub code-period : (n : ℕ) (f : ℕ → ℕ) → ((x : ℕ) → x < n → f x < n) → period n f ≡ lcm_from 1 (map length (system_of n f))
code-period n f inside = period-is-lcm n f inside ∙ lcms-perm (perm-sym (trees-lengths n f)) (cycle_lengths-positive n f)
