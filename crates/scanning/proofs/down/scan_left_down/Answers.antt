use Prim.Native.Nat.{◌-◌}
use native.Mathlib.Omega.{arith}
use Rattle.scanning.proofs.Scanning.{scan-start, pair-at, scan-on, scan-found}
use Rattle.scanning.proofs.Descending.{left_down, left-none}
use Rattle.scanning.proofs.down.scan_left_down.Goals as goal

pub loop-i-init : goal.loop-i-init
loop-i-init c = (scan-start, omega arith)

pub left_child-requires : goal.left_child-requires
left_child-requires c =
    let p = c.requires in
    let inv = c.loop-i.invariant in
    pair-at p.0 (c.loop-i.i - 1) _ inv.0.room (omega (arith, p.1, inv.1)) (omega (arith, p.2, inv.1))

pub returns-then-left_child : goal.returns-then-left_child
returns-then-left_child c =
    let i = c.loop-i.i in
    scan-found c.loop-i.invariant.0 (i - 1) (i - 1) _ (λ d e. left_down d i (omega arith)) c.left_child.result c.left_child.ensures c.if-left_child.true

pub loop-i-preserved : goal.loop-i-preserved
loop-i-preserved c =
    let i = c.loop-i.i in (
      scan-on c.loop-i.invariant.0 (i - 1) (i - 1) _ (λ d e. left_down d i (omega arith)) c.left_child.result c.left_child.ensures c.if-left_child.false
          c.left_child.auto.out,
      omega (arith, c.loop-i.invariant.1),
    )

pub returns : goal.returns
returns c = λ d e. left-none _ d e (omega arith) c.loop-i.invariant.0
