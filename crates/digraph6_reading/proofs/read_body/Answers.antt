use mathlib.Core.Path.{◌≡◌, sym, ◌∙◌}
use mathlib.Core.Bool.{true}
use native.Mathlib.Omega.{arith}
use lib.ListN.{length, take}
use lib.Seq.{length-take-le}
use Rattle.patterns.specs.declared.Refusal.TheVariants.{LineForm, OutDegree}
use Rattle.patterns.specs.Digraph6.{is_line_body}
use Rattle.digraph6_reading.proofs.LinesRead.{line_refused, body_refused, rows-refused, rows-read}
use Rattle.digraph6_reading.proofs.read_body.Goals as goal

-- the bytes are those of a matrix
pub returns-then-not-is_body : goal.returns-then-not-is_body
returns-then-not-is_body c =
    let a = c.args in
    line_refused LineForm _ (body_refused a.n a.body.now (sym c.is_body.ensures ∙ c.if-not-is_body.true))

pub returns-then-not-read_matrix : goal.returns-then-not-read_matrix
returns-then-not-read_matrix c =
    let body_is : let a = c.args in is_line_body a.n a.body.now ≡ true = sym c.is_body.ensures ∙ c.if-not-is_body.false in
    let count-is : let a = c.args in length (take a.n a.table.now) ≡ a.n = length-take-le _ _ (omega (arith, c.requires.0, c.requires.1)) in
    let a = c.args in
    let wrong = c.if-not-read_matrix.true in
    line_refused OutDegree _ (rows-refused a.n a.body.now body_is count-is _ c.read_matrix.result c.read_matrix.ensures wrong)

pub returns : goal.returns
returns c =
    let body_is : let a = c.args in is_line_body a.n a.body.now ≡ true = sym c.is_body.ensures ∙ c.if-not-is_body.false in
    let count-is : let a = c.args in length (take a.n a.table.now) ≡ a.n = length-take-le _ _ (omega (arith, c.requires.0, c.requires.1)) in
    let right = c.if-not-read_matrix.false in
    rows-read c.args.n c.args.body.now body_is count-is _ c.read_matrix.result c.read_matrix.ensures right
    c.read_matrix.auto.table c.requires.0 _
