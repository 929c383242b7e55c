use mathlib.Core.Path.{subst}
use borrow.Author.Rules.{rules}
use Rattle.std.proofs.lemmas.Result.{err_from_is_err_and}
use Rattle.patterns.specs.Census.{rows_of}
use Rattle.map_theory.proofs.SideBySide.{rows-places}
use Rattle.census_entries.specs.Decisions.{RowsDecided, Refuses}
use Rattle.census_entries.proofs.Columns.{columns-fit, columns-filled, columns-kept}
use Rattle.census_entries.proofs.write_columns.Goals as goal

-- for as many places as the c.min-places.ensures column has
pub put_columns-requires : goal.put_columns-requires
put_columns-requires c =
    let lengths = c.args.lengths.now in
    let counts = c.args.counts.now in
    let w = subst (λ places. RowsDecided c.args.table.images.now places c.in_ok-rows.rows) c.min-places.ensures c.in_ok-rows.ensures in
    let fit = columns-fit lengths counts w in
    (w.few, fit.0, fit.1)

pub returns-in_err-rows : goal.returns-in_err-rows
returns-in_err-rows c =
    let lengths = c.args.lengths.now in
    let counts = c.args.counts.now in
    let w = subst (λ places. Refuses c.args.table.images.now places c.in_err-rows.field-0.0) c.min-places.ensures c.in_err-rows.ensures in
    let p = err_from_is_err_and c.from_residual.result c.from_residual.ensures.1 in
    rw (p.1, p.2)
    (record { reply = w.reply (rows_of lengths counts) (rows-places lengths counts); output = columns-kept lengths counts w })

pub returns : goal.returns
returns c =
    let lengths = c.args.lengths.now in
    let counts = c.args.counts.now in
    let w = subst (λ places. RowsDecided c.args.table.images.now places c.in_ok-rows.rows) c.min-places.ensures c.in_ok-rows.ensures in
    record {
      reply = w.reply (rows_of lengths counts) (rows-places lengths counts);
      output = columns-filled lengths counts w (search rules) (search rules) c.put_columns.ensures;
    }
