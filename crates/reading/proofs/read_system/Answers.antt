use Rattle.std.proofs.Common.{length, sym, arith}
use borrow.Author.Tests.{eqb-true, eqb-false}
use Rattle.std.proofs.lemmas.Result.{err_from_is_err_and}
use Rattle.patterns.specs.declared.Refusal.TheVariants.{Count, Truncated, Sizes, Trailing}
use Rattle.reading.proofs.KeptShape.{kept_read}
use Rattle.reading.proofs.Whole.{whole-empty, whole-large, whole-ended, whole-many, whole-refused, whole-trailing, whole-done, refused-into}
use Rattle.reading.proofs.read_system.Goals as goal

pub returns-then-is_empty : goal.returns-then-is_empty
returns-then-is_empty c =
    kept_read (refused-into _ Truncated _ _ (whole-empty c.args.count c.args.s.now (eqb-true (length c.args.s.now) 0 (sym c.if-is_empty.ensures))))

pub returns-then-points-gt200 : goal.returns-then-points-gt200
returns-then-points-gt200 c =
    let some = eqb-false (length c.args.s.now) 0 (sym c.if-is_empty.ensures) in
    kept_read (refused-into _ Count _ _ (whole-large c.args.count c.args.s.now (omega arith) (omega arith)))

pub returns-then-s-eq1 : goal.returns-then-s-eq1
returns-then-s-eq1 c = kept_read (refused-into _ Truncated _ _ (whole-ended c.args.count c.args.s.now (omega arith) (omega arith)))

pub returns-then-points-components : goal.returns-then-points-components
returns-then-points-components c =
    let some = eqb-false (length c.args.s.now) 0 (sym c.if-is_empty.ensures) in
    kept_read (refused-into _ Sizes _ _ (whole-many c.args.count c.args.s.now (omega arith) (omega arith) (omega arith)))

pub returns-in_err-next : goal.returns-in_err-next
returns-in_err-next c =
    let some = eqb-false (length c.args.s.now) 0 (sym c.if-is_empty.ensures) in
    let read = c.read_components in
    let p = err_from_is_err_and c.from_residual.result c.from_residual.ensures.1 in
    rw (p.1, p.2)
    (kept_read
    (refused-into _ c.in_err-next.field-0.0 _ _
    (whole-refused c.args.count c.args.s.now _ _ read.result (rw (c.from-components.ensures, c.from-points.ensures) at read.ensures)
    (omega arith) (omega arith) (omega arith) c.in_err-next.field-0.0 c.in_err-next.was)))

-- the call has read the components
pub returns-then-next-count : goal.returns-then-next-count
returns-then-next-count c =
    let some = eqb-false (length c.args.s.now) 0 (sym c.if-is_empty.ensures) in
    let read = c.read_components in
    kept_read
    (refused-into _ Trailing _ _
    (whole-trailing c.args.count c.args.s.now _ _ read.result (rw (c.from-components.ensures, c.from-points.ensures) at read.ensures)
    (omega arith) (omega arith) (omega arith) c.in_ok-next.next c.in_ok-next.was (omega arith)))

pub returns : goal.returns
returns c =
    let some = eqb-false (length c.args.s.now) 0 (sym c.if-is_empty.ensures) in
    let read = c.read_components in
    rw (c.from-components.ensures, c.from-points.ensures)
    (kept_read
    (whole-done c.args.count c.args.s.now _ _ read.result (rw (c.from-components.ensures, c.from-points.ensures) at read.ensures)
    (omega arith) (omega arith) (omega arith) c.in_ok-next.next c.in_ok-next.was (omega arith)))
