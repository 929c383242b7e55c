use Prim.Native.Nat.{◌+◌}
use Rattle.component_theory.specs.ChildPlaces.{child_from}
use Rattle.scanning.proofs.Scanning.{Scanned}
use Rattle.scanning.proofs.up.scan_right.Given as goal

abbrev pub invariant-loop-i : goal.invariant-loop-i
invariant-loop-i l = Scanned child_from l.s (l.pairs + l.from) (l.pairs + l.i) l.initial.out l.out
