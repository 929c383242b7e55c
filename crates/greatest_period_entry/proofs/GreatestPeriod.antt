-- Cycles of the chosen lengths are a code of n points with the greatest period, n at most 120 [document 02, paper 9].
use mathlib.Core.Path.{ap, sym, ◌∙◌}
use mathlib.Core.List.{map}
use Prim.Native.Nat.{ℕ, ◌≤◌}
use lib.ListN.{get_or}
use Rattle.patterns.specs.Generation.{cycle}
use Rattle.patterns.specs.Table.{image}
use Rattle.patterns.specs.MapOf.{map_of}
use Rattle.patterns.specs.Period.{period}
use Rattle.patterns.specs.GreatestPeriod.{GreatestPeriod}
use Rattle.period_theory.specs.Landau.{landau}
use Rattle.period_theory.proofs.LandauBound.{period-at-most}
use Rattle.period_theory.proofs.GreatestPeriod.{cycles-canonical, cycles-weight, cycles-period}
use Rattle.greatest_period_entry.specs.LandauLengths.{landau_lengths}
use Rattle.greatest_period_entry.proofs.LandauReached.{landau-upward, landau-sum, landau-lcm}

pub greatest-period : (n : ℕ) → n ≤ 120 → GreatestPeriod n (map cycle (landau_lengths n)) (get_or landau n 0)
greatest-period n small =
    let u = landau-upward n in
    let e = landau-sum n small in
    record {
      valid = cycles-canonical u;
      points_are = cycles-weight (landau_lengths n) ∙ e;
      reached = ap (λ k. period k (image (map_of (map cycle (landau_lengths n))))) (sym e) ∙ cycles-period u ∙ landau-lcm n small;
      greatest = λ f inside. period-at-most n f inside small;
    }
