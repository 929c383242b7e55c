-- Cycles of given lengths in memory: the lengths, and a one for each point.
use mathlib.Core.Path.{◌≡◌, ap, sym, ◌∙◌}
use mathlib.Core.List.{List, map}
use Prim.Native.Nat.{ℕ}
use native.Mathlib.Omega.{arith}
use lib.ListN.{length, replicate}
use Rattle.patterns.specs.Generation.{cycle}
use Rattle.memory.specs.Memory.{Holds}
use Rattle.writing.specs.Writable.{SystemRoom}
use Rattle.writing.proofs.CanonicalHeld.{canonical-held}
use Rattle.form_theory.proofs.WrittenBack.{written-fits}
use Rattle.component_theory.proofs.Generation.{cycles-points}
use Rattle.size_lists.proofs.Filling.{flat-cycles}
use Rattle.period_theory.proofs.GreatestPeriod.{cycles-weight}
use Rattle.greatest_period_entry.specs.Lengths.{CyclesAsked}

module _ {lengths trees out : List ℕ} (a : CyclesAsked lengths trees out) {ones : List ℕ} (e : ones ≡ replicate (length trees) 1) where
  pub cycles-hold : Holds (map cycle lengths) lengths ones
  cycles-hold =
      record {
        points_are = sym (cycles-points lengths);
        flat_is = e ∙ ap (λ k. replicate k 1) (sym a.points_are ∙ cycles-weight lengths) ∙ sym (flat-cycles lengths);
      }

  pub cycles-room : SystemRoom lengths ones out 0
  cycles-room =
      record {
        held = canonical-held cycles-hold a.valid (omega (arith, a.points_are, a.small));
        room = omega (arith, written-fits (map cycle lengths) a.valid (omega (arith, a.points_are, a.small)), a.room);
      }
