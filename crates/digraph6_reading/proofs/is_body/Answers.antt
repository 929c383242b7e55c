use mathlib.Core.Path.{◌≡◌, sym, ◌∙◌}
use mathlib.Core.Bool.{true}
use lib.ListN.{length}
use Rattle.lists.specs.Select.{each}
use Rattle.patterns.specs.Digraph6.{in_format, body_length}
use Rattle.digraph6_reading.proofs.LinesRead.{body-padding}
use Rattle.digraph6_reading.proofs.is_body.Goals as goal

pub returns : goal.returns
returns c =
    let count-is : let a = c.args in length a.body.now ≡ body_length a.n = c.if-body-body_length.false ∙ c.body_length.ensures in
    let format-is : each in_format c.args.body.now ≡ true = sym c.in_format.ensures ∙ c.if-not-in_format.false in
    let a = c.args in
    body-padding a.n a.body.now count-is format-is c.next_one.ensures
