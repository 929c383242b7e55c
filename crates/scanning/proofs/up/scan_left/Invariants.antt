use Prim.Native.Nat.{◌≤◌}
use Rattle.component_theory.specs.ChildPlaces.{child_from}
use Rattle.scanning.proofs.Scanning.{Scanned}
use Rattle.scanning.proofs.up.scan_left.Given as goal

abbrev pub invariant-loop-i : goal.invariant-loop-i
invariant-loop-i l = Scanned child_from l.s l.from l.i l.initial.out l.out × (l.i ≤ l.pairs)
