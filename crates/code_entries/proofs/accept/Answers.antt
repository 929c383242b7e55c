use Rattle.std.proofs.lemmas.Result.{err_from_is_err_and}
use Rattle.acceptance.proofs.Taken.{code-taken, code-refused, accept-points, accept-refused}
use Rattle.code_entries.proofs.accept.Goals as goal

pub returns-in_err-accepted : goal.returns-in_err-accepted
returns-in_err-accepted c =
    let code = c.args.code.now in
    let fault = c.in_err-accepted.field-0.0 in
    let p = err_from_is_err_and c.from_residual.result c.from_residual.ensures.1 in
    rw (p.1, p.2) (accept-refused code fault (code-refused code c.accept_into.ensures fault c.in_err-accepted.was))

pub returns : goal.returns
returns c = accept-points (code-taken c.args.code.now c.accept_into.ensures c.in_ok-accepted.accepted c.in_ok-accepted.was)
