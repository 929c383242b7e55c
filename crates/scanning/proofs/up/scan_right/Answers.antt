use Prim.Native.Nat.{◌+◌}
use native.Mathlib.Omega.{arith}
use Rattle.scanning.proofs.Scanning.{scan-start, candidates-count, pair-at, scan-on, scan-found}
use Rattle.scanning.proofs.Ascending.{right-up, right-late, right_end}
use Rattle.scanning.proofs.up.scan_right.Goals as goal

pub loop-i-init : goal.loop-i-init
loop-i-init c = scan-start

pub returns-then-lead-i : goal.returns-then-lead-i
returns-then-lead-i c =
    λ d e. right-late c.requires c.loop-i.invariant _ d e c.if-lead-i.true c.loop-i-test.true

pub right_child-requires : goal.right_child-requires
right_child-requires c =
    pair-at c.requires c.loop-i.i _ c.loop-i.invariant.room (omega arith) (omega arith)

pub returns-then-right_child : goal.returns-then-right_child
returns-then-right_child c =
    let p = c.requires in
    let i = c.loop-i.i in
    let n = c.args.pairs in
    scan-found c.loop-i.invariant (n + i) (n + (i + 1)) _ (right-up p i (omega arith)) c.right_child.result
    (λ d e. c.right_child.ensures d n e (candidates-count p d e)) c.if-right_child.true

pub loop-i-preserved : goal.loop-i-preserved
loop-i-preserved c =
    let p = c.requires in
    let i = c.loop-i.i in
    let n = c.args.pairs in
    scan-on c.loop-i.invariant (n + i) (n + (i + 1)) _ (right-up p i (omega arith)) c.right_child.result
    (λ d e. c.right_child.ensures d n e (candidates-count p d e)) c.if-right_child.false c.right_child.auto.out

pub returns : goal.returns
returns c = λ d e. right_end c.requires c.loop-i.invariant _ d e c.loop-i-test.false
