use Rattle.std.proofs.Common.{ap, ◌∙◌}
use lib.ListN.{get_or, set}
use Rattle.lists.proofs.Shifting.{shifted-exchanged}
use Rattle.lists.proofs.shift.Goals as goal

pub returns : goal.returns
returns c =
    let a = c.args in
    ap (λ l. set l a.a (get_or a.s.now a.b 0)) c.copy_within.ensures.after ∙ shifted-exchanged a.s.now a.a a.b c.requires.0 c.requires.1
