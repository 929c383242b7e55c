use Rattle.lines.proofs.LineTexts.{total-added}
use Rattle.lines.proofs.put_total.Goals as goal

pub returns : goal.returns
returns c =
    total-added c.args.count c.put_decimal-end.ensures.added c.put_bytes.ensures
