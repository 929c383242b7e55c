use mathlib.Core.Path.{sym}
use lib.Seq.{length-take-le}
use Rattle.std.proofs.lemmas.Result.{err_from_is_err_and}
use Rattle.acceptance.proofs.Taken.{code-taken, code-refused, taken-points}
use Rattle.patterns.specs.Replies.{part_answer}
use Rattle.component_parts.proofs.Showing.{code-fault, code_holds}
use Rattle.component_parts.proofs.stretch_of.Goals as goal

pub returns-in_err-accepted : goal.returns-in_err-accepted
returns-in_err-accepted c =
    let code = c.args.code.now in
    let fault = c.in_err-accepted.field-0.0 in
    let p = err_from_is_err_and c.from_residual.result c.from_residual.ensures.1 in
    rw (p.1, p.2) (code-fault code c.args.position fault (code-refused code c.accept_into.ensures fault c.in_err-accepted.was))

-- the code was accepted, and memory holds its system
pub slice_bounds-trees-end : goal.slice_bounds-trees-end
slice_bounds-trees-end c =
    taken-points (code-taken c.args.code.now c.accept_into.ensures c.in_ok-accepted.accepted c.in_ok-accepted.was)

pub slice_bounds-part_in-end-2 : goal.slice_bounds-part_in-end-2
slice_bounds-part_in-end-2 c =
    sym (length-take-le _ _ (taken-points (code-taken c.args.code.now c.accept_into.ensures c.in_ok-accepted.accepted c.in_ok-accepted.was)))

pub part_in-requires : goal.part_in-requires
part_in-requires c =
    let t = code-taken c.args.code.now c.accept_into.ensures c.in_ok-accepted.accepted c.in_ok-accepted.was in
    record { system = t.system; holds = t.holds; canonical_is = t.canonical_is; small = t.small }

pub returns : goal.returns
returns c =
    let code = c.args.code.now in
    let t = code-taken code c.accept_into.ensures c.in_ok-accepted.accepted c.in_ok-accepted.was in
    code_holds code c.args.position t.system t.is (part_answer c.part_in.result) (c.part_in.ensures t.system t.holds)
