use mathlib.Core.Path.{◌≡◌}
use lib.ListN.{take}
use Rattle.written.specs.Putting.{placed}
use Rattle.tree_reading.proofs.narrow.Given as goal

abbrev pub invariant-loop-i : goal.invariant-loop-i
invariant-loop-i l = (l.out ≡ placed l.at (take l.i l.s) l.initial.out)
