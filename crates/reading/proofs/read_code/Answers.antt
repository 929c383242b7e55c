use Rattle.std.proofs.Common.{refl}
use Rattle.std.proofs.lemmas.Result.{err_from_is_err_and}
use Rattle.reading.proofs.Kept.{uncut-refused, first-read}
use Rattle.reading.proofs.read_code.Goals as goal

pub returns-in_err-count : goal.returns-in_err-count
returns-in_err-count c =
    let p = err_from_is_err_and c.from_residual.result c.from_residual.ensures.1 in
    rw (p.1, p.2) (uncut-refused c.cut_into.ensures c.in_err-count.field-0.0 _ _ c.in_err-count.was)

pub returns : goal.returns
returns c =
    let call = c.read_system in
    first-read c.cut_into.ensures c.in_ok-count.field-0 refl c.in_ok-count.was call.result call.new.sizes call.new.trees (rw c.min.ensures at call.ensures)
