use Prim.Native.Nat.{◌+◌, ◌-◌}
use native.Mathlib.Omega.{arith}
use Rattle.scanning.proofs.Scanning.{scan-start, candidates-count, pair-at, scan-on, scan-found, passed-one}
use Rattle.scanning.proofs.Descending.{right-down, right-none}
use Rattle.scanning.proofs.down.scan_right_down.Goals as goal

pub loop-i-init : goal.loop-i-init
loop-i-init c = (scan-start, omega arith)

pub right_child-requires : goal.right_child-requires
right_child-requires c =
    let p = c.requires in
    let inv = c.loop-i.invariant in
    pair-at p.0 (c.loop-i.i - 1) _ inv.0.room (omega (arith, p.1, inv.1)) (omega (arith, p.2, inv.1))

pub returns-then-right_child : goal.returns-then-right_child
returns-then-right_child c =
    let i = c.loop-i.i in
    let n = c.args.pairs in
    λ d e.
    passed-one d _ _ _
    (scan-found c.loop-i.invariant.0 (n + (i - 1)) (n + (i - 1)) _ (λ d e. right-down d n i (omega arith)) c.right_child.result
    (λ d e. c.right_child.ensures d n e (candidates-count c.requires.0 d e)) c.if-right_child.true d e)

pub loop-i-preserved : goal.loop-i-preserved
loop-i-preserved c =
    let i = c.loop-i.i in
    let n = c.args.pairs in (
      scan-on c.loop-i.invariant.0 (n + (i - 1)) (n + (i - 1)) _ (λ d e. right-down d n i (omega arith)) c.right_child.result
          (λ d e. c.right_child.ensures d n e (candidates-count c.requires.0 d e)) c.if-right_child.false c.right_child.auto.out,
      omega (arith, c.loop-i.invariant.1),
    )

pub returns : goal.returns
returns c = λ d e. right-none _ d e (omega arith) c.args.pairs c.loop-i.invariant.0
