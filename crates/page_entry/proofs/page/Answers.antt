use native.Mathlib.Omega.{arith}
use Rattle.std.proofs.lemmas.Result.{err_from_is_err_and}
use Rattle.acceptance.proofs.Taken.{code-taken, code-refused}
use Rattle.page_entry.proofs.PageReply.{too-many-replied, fault-replied, taken-copies, taken-replied}
use Rattle.page_entry.proofs.page.Goals as goal

pub returns-then-wanted-gt1000 : goal.returns-then-wanted-gt1000
returns-then-wanted-gt1000 c = too-many-replied c.args.wanted c.args.code.now c.args.out.now (omega (arith, c.if-wanted-gt1000.true))

pub returns-in_err-read : goal.returns-in_err-read
returns-in_err-read c =
    let p = err_from_is_err_and c.from_residual.result c.from_residual.ensures.1 in
    let cause = c.in_err-read.field-0.0 in
    rw (p.1, p.2)
    (fault-replied c.if-wanted-gt1000.false c.args.code.now c.args.out.now cause (code-refused c.args.code.now c.accept_into.ensures cause c.in_err-read.was))

-- the code was accepted, and memory holds its system
pub put_page-requires : goal.put_page-requires
put_page-requires c =
    taken-copies c.if-wanted-gt1000.false (code-taken c.args.code.now c.accept_into.ensures c.in_ok-read.read c.in_ok-read.was) (omega arith) (omega arith)

pub returns : goal.returns
returns c =
    taken-replied c.if-wanted-gt1000.false (code-taken c.args.code.now c.accept_into.ensures c.in_ok-read.read c.in_ok-read.was) c.put_page.ensures
