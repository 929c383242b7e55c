use mathlib.Core.Path.{◌∙◌}
use Rattle.text.proofs.Decimals.{digits_decimal}
use Rattle.text.proofs.put_decimal.Goals as goal

pub returns-clause-added : goal.returns-clause-added
returns-clause-added c =
    let d = c.decimal-k in
    rw (d.ensures.digits ∙ digits_decimal d.result c.args.x d.ensures.len) at c.put_bytes.ensures
