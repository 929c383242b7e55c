use mathlib.Core.Path.{refl}
use native.Mathlib.Omega.{arith}
use lib.ListN.{length}
use Rattle.lists.proofs.Tests.{no_both}
use Rattle.tables.proofs.Tables.{points-each, checked-large, checked-bad, checked-passes}
use Rattle.tables.proofs.Table.check.Goals as goal

pub returns-then-n-gt200 : goal.returns-then-n-gt200
returns-then-n-gt200 c = checked-large c.args.images.now (omega arith)

pub invariant_of-result : goal.invariant_of-result
invariant_of-result c =
    let f = c.args.images.now in
    record { table = points-each (length f) f (c.are_points.ensures.0 c.if-are_points.true); small = omega arith }

pub returns-then-are_points : goal.returns-then-are_points
returns-then-are_points c =
    let f = c.args.images.now in
    (refl, checked-passes f (record { table = points-each (length f) f (c.are_points.ensures.0 c.if-are_points.true); small = omega arith }))

pub returns-else-are_points : goal.returns-else-are_points
returns-else-are_points c = checked-bad c.args.images.now (omega arith) (λ h. no_both (c.are_points.ensures.1 h) c.if-are_points.false)
