use mathlib.Core.Path.{ap, subst, ◌∙◌}
use mathlib.Core.List.{map}
use lib.ListN.{length, length-map}
use Rattle.std.proofs.lemmas.Result.{err_from_is_err_and}
use Rattle.patterns.specs.Table.{image}
use Rattle.patterns.specs.Census.{height}
use Rattle.patterns.specs.Replies.{row_of}
use Rattle.census_entries.specs.Decisions.{RowsDecided, Refuses}
use Rattle.census_entries.proofs.Decisions.{refused-table, refusal-replied, rows-replied}
use Rattle.census_entries.proofs.census.Goals as goal

pub returns-in_err-table : goal.returns-in_err-table
returns-in_err-table c =
    let rows = c.args.rows.now in
    let p = err_from_is_err_and c.from_residual.result c.from_residual.ensures.1 in
    rw (p.1, p.2) (refusal-replied (map row_of rows) (length-map rows row_of) (refused-table c.args.table.now c.in_err-table.ensures (length rows)))

pub returns-in_err-found : goal.returns-in_err-found
returns-in_err-found c =
    let rows = c.args.rows.now in
    let w = subst (λ f. Refuses f (length rows) c.in_err-found.field-0.0) c.in_ok-table.ensures.0 c.in_err-found.ensures in
    let p = err_from_is_err_and c.from_residual-in_err-found.result c.from_residual-in_err-found.ensures.1 in
    rw (p.1, p.2) (refusal-replied (map row_of rows) (length-map rows row_of) w)

pub returns : goal.returns
returns c =
    let rows = c.args.rows.now in
    let same = c.in_ok-table.ensures.0 in
    let w = subst (λ f. RowsDecided f (length rows) c.in_ok-found.found) same c.in_ok-found.ensures in
    rows-replied (map row_of rows) (length-map rows row_of) w (c.height-height.ensures ∙ ap (λ f. height (length f) (image f)) same) c.fill.ensures
