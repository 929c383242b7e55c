use Rattle.lines.proofs.LineTexts.{header-added}
use Rattle.lines.proofs.put_header.Goals as goal

pub returns : goal.returns
returns c =
    header-added c.args.n c.put_bytes-name.ensures c.put_decimal-end.ensures.added
    c.put_byte.ensures
