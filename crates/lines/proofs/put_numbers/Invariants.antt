use mathlib.Core.Path.{◌≡◌}
use Prim.Native.Nat.{◌+◌, ◌*◌, ◌≤◌}
use lib.ListN.{length, take}
use Rattle.lists.specs.Select.{gather}
use Rattle.patterns.specs.ListingText.{spaced}
use Rattle.text.specs.Added.{Added}
use Rattle.lines.proofs.put_numbers.Given as goal

abbrev pub invariant-loop-x : goal.invariant-loop-x
invariant-loop-x l =
    (length l.out ≡ length l.initial.out) × (l.end ≤ l.at + 4 * l.x-index) × Added (gather spaced (take l.x-index l.code)) l.at l.initial.out l.end l.out
