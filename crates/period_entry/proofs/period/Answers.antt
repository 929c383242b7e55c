use mathlib.Core.Path.{ap}
use Rattle.std.proofs.lemmas.Result.{err_from_is_err_and}
use Rattle.patterns.specs.Replies.{length_is}
use Rattle.patterns.specs.Period.{period_of}
use Rattle.period_entry.proofs.period.Goals as goal

pub period_in-requires : goal.period_in-requires
period_in-requires c = rw c.in_ok-small.ensures.0 c.in_ok-small.ensures.2

pub returns-in_err-small : goal.returns-in_err-small
unfolding period_of
returns-in_err-small c =
    let p = err_from_is_err_and c.from_residual.result c.from_residual.ensures.1 in
    rw (p.1, p.2, c.in_err-small.ensures)

pub returns : goal.returns
unfolding period_of
returns c = rw c.in_ok-small.ensures.1 (ap length_is (rw c.in_ok-small.ensures.0 at c.period_in.ensures))
