use Prim.Native.Nat.{◌+◌}
use native.Mathlib.Omega.{arith}
use Rattle.scanning.proofs.Scanning.{scan-start, pair-at, scan-on, scan-found, passed-one}
use Rattle.scanning.proofs.Ascending.{left_up, left-late, left_end}
use Rattle.scanning.proofs.up.scan_left.Goals as goal

pub loop-i-init : goal.loop-i-init
loop-i-init c = (scan-start, c.requires.1)

pub returns-then-lead-i : goal.returns-then-lead-i
returns-then-lead-i c =
    λ d e. left-late c.requires.0 c.loop-i.invariant.0 _ d e c.if-lead-i.true c.loop-i-test.true

pub left_child-requires : goal.left_child-requires
left_child-requires c =
    pair-at c.requires.0 c.loop-i.i _ c.loop-i.invariant.0.room (omega arith) (omega arith)

pub returns-then-left_child : goal.returns-then-left_child
returns-then-left_child c =
    let i = c.loop-i.i in
    λ d e.
    passed-one d _ _ _
    (scan-found c.loop-i.invariant.0 i (i + 1) _ (left_up c.requires.0 i (omega arith)) c.left_child.result c.left_child.ensures
    c.if-left_child.true d e)

pub loop-i-preserved : goal.loop-i-preserved
loop-i-preserved c =
    let i = c.loop-i.i in (
      scan-on c.loop-i.invariant.0 i (i + 1) _ (left_up c.requires.0 i (omega arith)) c.left_child.result c.left_child.ensures
          c.if-left_child.false c.left_child.auto.out,
      omega arith,
    )

pub returns : goal.returns
returns c = λ d e. left_end c.requires.0 c.loop-i.invariant.0 _ d e (omega arith)
