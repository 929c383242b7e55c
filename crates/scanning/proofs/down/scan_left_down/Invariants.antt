use Prim.Native.Nat.{◌≤◌}
use Rattle.component_theory.specs.ChildPlaces.{child_before}
use Rattle.scanning.proofs.Scanning.{Scanned}
use Rattle.scanning.proofs.down.scan_left_down.Given as goal

abbrev pub invariant-loop-i : goal.invariant-loop-i
invariant-loop-i l = Scanned child_before l.s l.to l.i l.initial.out l.out × (l.i ≤ l.to)
