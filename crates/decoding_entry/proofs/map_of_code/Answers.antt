use mathlib.Core.Path.{sym}
use lib.Seq.{length-take-le}
use Rattle.std.proofs.lemmas.Result.{err_from_is_err_and}
use Rattle.patterns.specs.Entry.{map_of_code}
use Rattle.patterns.proofs.Outcomes.{outcome-refused}
use Rattle.acceptance.proofs.Taken.{code-taken, code-refused, outcome-taken, taken-held, taken-points}
use Rattle.decoding_entry.proofs.map_of_code.Goals as goal

pub returns-in_err-accepted : goal.returns-in_err-accepted
unfolding map_of_code
returns-in_err-accepted c =
    let fault = c.in_err-accepted.field-0.0 in
    let p = err_from_is_err_and c.from_residual.result c.from_residual.ensures.1 in
    rw (p.1, p.2) (outcome-refused _ c.args.out.now fault (code-refused c.args.code.now c.accept_into.ensures fault c.in_err-accepted.was))

-- the code was accepted, and memory holds its system
pub slice_bounds-trees-end : goal.slice_bounds-trees-end
slice_bounds-trees-end c =
    taken-points (code-taken c.args.code.now c.accept_into.ensures c.in_ok-accepted.accepted c.in_ok-accepted.was)

pub slice_bounds-system-end-2 : goal.slice_bounds-system-end-2
slice_bounds-system-end-2 c =
    sym (length-take-le _ _ (taken-points (code-taken c.args.code.now c.accept_into.ensures c.in_ok-accepted.accepted c.in_ok-accepted.was)))

pub invariant_of-system : goal.invariant_of-system
invariant_of-system c = record { held = taken-held (code-taken c.args.code.now c.accept_into.ensures c.in_ok-accepted.accepted c.in_ok-accepted.was) }

pub returns : goal.returns
unfolding map_of_code
returns c =
    outcome-taken (code-taken c.args.code.now c.accept_into.ensures c.in_ok-accepted.accepted c.in_ok-accepted.was) c.put_map.ensures
