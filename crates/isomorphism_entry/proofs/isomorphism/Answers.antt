use mathlib.Core.Path.{ap, sym, ◌∙◌}
use lib.ListN.{length}
use Rattle.std.proofs.lemmas.Result.{err_from_is_err_and}
use Rattle.tables.proofs.Tables.{checked-table}
use Rattle.isomorphism_entry.proofs.Compared.{first-bad, second-bad, lengths-bad}
use Rattle.isomorphism_entry.proofs.isomorphism.Goals as goal

pub returns-in_err-f : goal.returns-in_err-f
returns-in_err-f c =
    let a = c.args in
    let p = err_from_is_err_and c.from_residual.result c.from_residual.ensures.1 in
    rw (p.1, p.2) (first-bad a.f.now a.g.now a.out.now c.in_err-f.field-0.0 c.in_err-f.ensures)

pub returns-in_err-g : goal.returns-in_err-g
returns-in_err-g c =
    let a = c.args in
    let p = err_from_is_err_and c.from_residual-in_err-g.result c.from_residual-in_err-g.ensures.1 in
    rw (p.1, p.2) (second-bad a.f.now a.g.now a.out.now (checked-table a.f.now c.in_ok-f.ensures.1) c.in_err-g.field-0.0 c.in_err-g.ensures)

pub returns-then-f-g : goal.returns-then-f-g
returns-then-f-g c =
    let a = c.args in
    let f = c.in_ok-f.ensures in
    let g = c.in_ok-g.ensures in
    lengths-bad a.f.now a.g.now a.out.now (checked-table a.f.now f.1) (checked-table a.g.now g.1)
    (λ e. c.if-f-g.true (ap length f.0 ∙ e ∙ sym (ap length g.0)))
