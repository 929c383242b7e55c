use Prim.Native.Nat.{ℕ, ◌<◌}
use mathlib.Core.List.{List}
use native.Mathlib.Omega.{arith}
use lib.ListN.{length}
use Rattle.distances.specs.Noted.{NotedTable}
use Rattle.distances.proofs.Noting.{noted-table, Stepping, near, further, stepping-next, stepping-end}
use Rattle.distances.proofs.distance.Goals as goal

-- fewer steps than points
few : {f noted : List ℕ} {x k y : ℕ} → NotedTable f noted → x < length f → Stepping f x k y → k < 200
few {f} {noted} {x} t h s = omega (arith, s.rest, near t x h, t.small)

pub overflow_add-steps : goal.overflow_add-steps
overflow_add-steps c =
    let known = noted-table c.args.table.table c.args.table.small c.requires.known in
    omega (arith, few known c.requires.here c.loop-y.invariant)

pub loop-y-smaller : goal.loop-y-smaller
loop-y-smaller c =
    let known = noted-table c.args.table.table c.args.table.small c.requires.known in
    omega (arith, further known c.loop-y.y c.loop-y.invariant.point c.loop-y-test.true)

pub loop-y-preserved : goal.loop-y-preserved
loop-y-preserved c =
    let known = noted-table c.args.table.table c.args.table.small c.requires.known in
    stepping-next known c.loop-y.invariant c.loop-y-test.true

pub overflow_add-result : goal.overflow_add-result
overflow_add-result c =
    let known = noted-table c.args.table.table c.args.table.small c.requires.known in
    omega (arith, few known c.requires.here c.loop-y.invariant, c.type_inv.noted c.loop-y.y)

pub returns : goal.returns
returns c =
    let known = noted-table c.args.table.table c.args.table.small c.requires.known in
    stepping-end known c.loop-y.invariant c.loop-y-test.false
