-- The lengths that were chosen for n points: they are found in memory, their cycles can be written, and the reply is what the paper asks for.
use mathlib.Core.Path.{◌≡◌, ap, sym, ◌∙◌}
use mathlib.Core.List.{List, ◌++◌, map}
use Prim.Native.Nat.{ℕ, ◌+◌, ◌-◌, ◌≤◌}
use native.Mathlib.Omega.{arith}
use lib.ListN.{length, take, drop, length-drop}
use lib.Seq.{take_all}
use Rattle.patterns.specs.Generation.{cycle}
use Rattle.patterns.specs.Written.{written}
use Rattle.patterns.specs.Replies.{greatest_is}
use Rattle.patterns.specs.GreatestPeriod.{GreatestPeriod, GreatestReplied, found}
use Rattle.written.specs.Putting.{Placed}
use Rattle.system_theory.proofs.Sizes.{upward-member}
use Rattle.period_theory.specs.Multiples.{lcm_from}
use Rattle.period_theory.proofs.GreatestPeriod.{cycles-canonical, cycles-weight}
use Rattle.multiples.specs.FittingMultiples.{LcmsAsked}
use Rattle.multiples.proofs.LcmSteps.{few-asked}
use Rattle.greatest_period_entry.specs.LandauLengths.{landau_lengths}
use Rattle.greatest_period_entry.specs.Lengths.{LengthsFrom, CyclesAsked}
use Rattle.greatest_period_entry.proofs.LandauReached.{landau-upward, landau-sum, landau-lcm}
use Rattle.greatest_period_entry.proofs.GreatestPeriod.{greatest-period}
use Rattle.greatest_period_entry.proofs.Requests.{request-passes}

-- all places from r on
pub lengths-rest : {r : ℕ} {sizes l : List ℕ} → LengthsFrom r sizes l → length sizes ≡ 200 → take (200 - r) (drop r sizes) ≡ l
lengths-rest {r} {sizes} w e = take_all (200 - r) (drop r sizes) (omega (arith, length-drop r sizes)) ∙ w.are

module _ (n : ℕ) (small : n ≤ 120) {lengths : List ℕ} (e : lengths ≡ landau_lengths n) where
  pub chosen-asked : {trees out : List ℕ} → length trees ≡ n → 1000 ≤ length out → CyclesAsked lengths trees out
  chosen-asked {trees} p room =
      rw e (record {
        valid = cycles-canonical (landau-upward n);
        points_are = cycles-weight (landau_lengths n) ∙ landau-sum n small ∙ sym p;
        small = omega (arith, p);
        room = room;
      })

  pub chosen-multiples : LcmsAsked lengths
  chosen-multiples = rw e (few-asked (landau_lengths n) (λ x m. upward-member (landau-upward n) m) (omega (arith, landau-sum n small)))

  -- the cycles were written, and their least common multiple is told
  pub chosen-replied : {before after : List ℕ} {r p : ℕ} → 1000 ≤ length before → Placed (written (map cycle lengths)) 0 before r after → p ≡ lcm_from 1 lengths
      → GreatestReplied n before (greatest_is r p) after
  chosen-replied {before} {after} {r} {p} room w q =
      let code = written (map cycle lengths) in
      let told : GreatestPeriod n (map cycle lengths) p = rw (q, e, landau-lcm n small) (greatest-period n small) in
      let whole : 0 + length code ≡ length code = omega arith in
      let end : r ≡ length code = w.end ∙ whole in
      let output : after ≡ code ++ drop (length code) before = w.output ∙ ap (λ j. code ++ drop j before) whole in
      rw (end, output) (found (request-passes n before small room) told)
