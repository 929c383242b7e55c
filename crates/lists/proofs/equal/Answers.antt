use Rattle.std.proofs.Common.{◌∙◌}
use Rattle.lists.proofs.Ordering.{same-lists}
use Rattle.lists.proofs.equal.Goals as goal

pub returns : goal.returns
returns c = c.eq.ensures ∙ same-lists c.args.s.now c.args.t.now
