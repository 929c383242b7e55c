-- The period of the map of a code; cycles of rising lengths as a code; and that the greatest period of n points is one number [document 02, paper 9].
use mathlib.Core.Path.{◌≡◌, refl, ap, ap₂, sym, ◌∙◌}
use mathlib.Core.List.{List, [], ◌∷◌, map}
use mathlib.Core.Bool.{true}
use Prim.Native.Nat.{ℕ, ◌<◌}
use native.Mathlib.Omega.{arith}
use lib.ListN.{length, length-replicate}
use Rattle.lists.proofs.Members.{in_head, in_list}
use Rattle.lists.proofs.Follow.{first_some}
use Rattle.lists.proofs.Permute.{total-map}
use Rattle.patterns.specs.Tree.{point}
use Rattle.patterns.specs.Component.{points}
use Rattle.patterns.specs.Generation.{cycle}
use Rattle.patterns.specs.System.{System, weight, systems, canonical}
use Rattle.patterns.specs.Table.{image, system_of, system_of_table}
use Rattle.patterns.specs.MapOf.{map_of}
use Rattle.patterns.specs.Period.{period}
use Rattle.patterns.specs.GreatestPeriod.{GreatestPeriod}
use Rattle.component_theory.proofs.Generation.{cycles-points}
use Rattle.system_theory.proofs.Sizes.{Upward, upward-from, sum}
use Rattle.system_theory.proofs.Canonical.{systems-sound}
use Rattle.system_theory.proofs.Firsts.{sizes-start}
use Rattle.map_theory.proofs.Isomorphisms.{table_below}
use Rattle.map_theory.proofs.MapOf.{length-map_of, map_of-table}
use Rattle.map_theory.proofs.Theorems.{system-of-map}
use Rattle.period_theory.specs.Multiples.{lcm_from}
use Rattle.period_theory.proofs.CodePeriods.{code-period}

module _ (S : System) where
  map-inside : {n : ℕ} → weight S ≡ n → (x : ℕ) → x < n → image (map_of S) x < n
  map-inside {n} e = table_below n (map_of S) (length-map_of S ∙ e) (map_of-table S)

  -- the period of the map of a code is the least common multiple of its numbers of trees
  pub map-period : canonical S ≡ true → period (weight S) (image (map_of S)) ≡ lcm_from 1 (map length S)
  unfolding system_of_table
  map-period c =
      let same : system_of (weight S) (image (map_of S)) ≡ S = ap (λ n. system_of n (image (map_of S))) (sym (length-map_of S)) ∙ system-of-map S c in
      code-period (weight S) (image (map_of S)) (map-inside refl) ∙ ap (λ S. lcm_from 1 (map length S)) same

cycles-trees : (l : List ℕ) → map length (map cycle l) ≡ l
cycles-trees [] = refl
cycles-trees (k ∷ l) = ap₂ ◌∷◌ (length-replicate k point) (cycles-trees l)

-- Cycles by their lengths have as many points as these add up to,
pub cycles-weight : (l : List ℕ) → weight (map cycle l) ≡ sum l
cycles-weight l = sym (total-map (λ x. x) points (map cycle l)) ∙ ap sum (cycles-points l)

-- and, where the lengths do not fall, are a code, whose period is the least common multiple of the lengths.
module _ {l : List ℕ} (u : Upward 1 l) where
  pub cycles-canonical : canonical (map cycle l) ≡ true
  unfolding canonical
  cycles-canonical = (systems-sound [] l (upward-from (omega arith) u) (in_list (sym (first_some (systems [] l) (sizes-start u)).1) in_head)).0

  pub cycles-period : period (sum l) (image (map_of (map cycle l))) ≡ lcm_from 1 l
  cycles-period = ap (λ n. period n (image (map_of (map cycle l)))) (sym (cycles-weight l)) ∙ map-period (map cycle l) cycles-canonical ∙ ap (lcm_from 1) (cycles-trees l)

-- the number is fixed, whichever code reaches it
pub greatest-unique : {n : ℕ} {S R : System} {p q : ℕ} → GreatestPeriod n S p → GreatestPeriod n R q → p ≡ q
greatest-unique {n} {S} {R} a b =
    let p-least = b.greatest (image (map_of S)) (map-inside S a.points_are) in
    let q-least = a.greatest (image (map_of R)) (map-inside R b.points_are) in
    omega (arith, a.reached, b.reached)
