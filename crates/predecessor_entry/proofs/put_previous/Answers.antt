use Rattle.std.proofs.lemmas.Result.{err_from_is_err_and}
use Rattle.step_replies.proofs.StepReplies.{previous-told, beside-within, beside-held, beside_none, beside-put}
use Rattle.predecessor_entry.proofs.put_previous.Goals as goal

pub slice_bounds-sizes-end : goal.slice_bounds-sizes-end
slice_bounds-sizes-end c = beside-within previous-told c.requires c.precede.result c.precede.new.sizes c.precede.new.trees c.precede.ensures c.in-Some.k c.in-Some.is c.precede.auto.sizes

pub invariant_of-put : goal.invariant_of-put
invariant_of-put c = record { held = beside-held previous-told c.requires c.precede.result c.precede.new.sizes c.precede.new.trees c.precede.ensures c.in-Some.k c.in-Some.is c.precede.auto.sizes }

pub returns-in_default : goal.returns-in_default
returns-in_default c = beside_none previous-told c.requires c.precede.result c.precede.new.sizes c.precede.new.trees c.precede.ensures c.in_default.is c.args.out.now

pub returns-in_err-length : goal.returns-in_err-length
returns-in_err-length c =
    let p = err_from_is_err_and c.from_residual.result c.from_residual.ensures.1 in
    rw (p.1, p.2) (beside-put previous-told c.requires c.precede.result c.precede.new.sizes c.precede.new.trees c.precede.ensures c.in-Some.k c.in-Some.is c.in_err-length.ensures)

pub returns : goal.returns
returns c = beside-put previous-told c.requires c.precede.result c.precede.new.sizes c.precede.new.trees c.precede.ensures c.in-Some.k c.in-Some.is c.in_ok-length.ensures
