use Rattle.lines.proofs.LineTexts.{line-added}
use Rattle.lines.proofs.put_line.Goals as goal

pub returns : goal.returns
returns c =
    let a = c.args in
    line-added a.position a.code.now c.put_decimal-place.ensures.added c.put_byte-colon.ensures
    c.put_numbers-end.ensures.0 c.put_byte.ensures
