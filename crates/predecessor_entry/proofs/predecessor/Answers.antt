use native.Mathlib.Omega.{arith}
use lib.ListN.{length-take}
use Rattle.std.proofs.lemmas.Result.{err_from_is_err_and}
use Rattle.patterns.specs.Predecessor.{predecessor_of}
use Rattle.patterns.proofs.Outcomes.{outcome-refused}
use Rattle.acceptance.proofs.Taken.{code-taken, code-refused, outcome-taken, taken-points}
use Rattle.step_replies.proofs.StepReplies.{taken_next}
use Rattle.predecessor_entry.proofs.predecessor.Goals as goal

pub slice_bounds-trees-end : goal.slice_bounds-trees-end
slice_bounds-trees-end c = taken-points (code-taken c.args.code.now c.accept_into.ensures c.in_ok-read.read c.in_ok-read.was)

pub slice_bounds-put_previous-end-2 : goal.slice_bounds-put_previous-end-2
slice_bounds-put_previous-end-2 c =
    let fits = taken-points (code-taken c.args.code.now c.accept_into.ensures c.in_ok-read.read c.in_ok-read.was) in
    rw length-take (omega arith)

pub put_previous-requires : goal.put_previous-requires
put_previous-requires c =
    taken_next (code-taken c.args.code.now c.accept_into.ensures c.in_ok-read.read c.in_ok-read.was) (omega arith) (omega arith)

pub returns-in_err-read : goal.returns-in_err-read
unfolding predecessor_of
returns-in_err-read c =
    let p = err_from_is_err_and c.from_residual.result c.from_residual.ensures.1 in
    rw (p.1, p.2) (outcome-refused _ c.args.out.now _ (code-refused c.args.code.now c.accept_into.ensures c.in_err-read.field-0.0 c.in_err-read.was))

pub returns : goal.returns
unfolding predecessor_of
returns c = outcome-taken (code-taken c.args.code.now c.accept_into.ensures c.in_ok-read.read c.in_ok-read.was) c.put_previous.ensures
