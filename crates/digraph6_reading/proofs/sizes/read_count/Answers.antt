use mathlib.Core.Path.{sym}
use native.Mathlib.Omega.{arith}
use Rattle.std.proofs.lemmas.Result.{err_from_is_err_and}
use Rattle.digraph6_reading.proofs.SizeForms.{count-unread, count-large, count-longer, count-read}
use Rattle.digraph6_reading.proofs.sizes.read_count.Goals as goal

pub returns-in_err-size : goal.returns-in_err-size
returns-in_err-size c =
    let p = err_from_is_err_and c.from_residual.result c.from_residual.ensures.1 in
    rw (p.1, p.2) (count-unread c.args.s.now c.in_err-size.ensures)

pub returns-then-size-gt200 : goal.returns-then-size-gt200
returns-then-size-gt200 c = count-large c.args.s.now (sym c.in_ok-size.ensures) (omega arith)

pub returns-then-size-size_length : goal.returns-then-size-size_length
returns-then-size-size_length c = count-longer c.args.s.now (sym c.in_ok-size.ensures) (omega arith) (λ e. omega (arith, e, c.size_length.ensures))

pub returns : goal.returns
returns c = count-read c.args.s.now (sym c.in_ok-size.ensures) (omega arith) (omega (arith, c.size_length.ensures))
