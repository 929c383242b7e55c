use native.Mathlib.Omega.{arith}
use Rattle.lines.proofs.LineTexts.{spaced-added, byte-length}
use Rattle.lines.proofs.put_spaced.Goals as goal

pub returns : goal.returns
returns c =
    let x = c.args.x in
    let p = spaced-added x c.put_byte-place.ensures (rw c.from.ensures at c.put_decimal.ensures.added) in
    (p, omega (arith, p.end, byte-length x (omega arith)))
