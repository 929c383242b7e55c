use mathlib.Core.Path.{◌≡◌}
use Prim.Native.Nat.{◌≤◌}
use lib.ListN.{length}
use Rattle.lister.specs.Remaining.{remaining}
use Rattle.lister.specs.Good.{Good}
use Rattle.listing.proofs.write_pieces.Given as goal

abbrev pub invariant-loop-step : goal.invariant-loop-step
invariant-loop-step g l = Good l.state × (4096 ≤ length l.out) × (length l.out ≡ length l.initial.out)

abbrev pub decreases-loop-step : goal.decreases-loop-step
decreases-loop-step g l = length (remaining l.state)
