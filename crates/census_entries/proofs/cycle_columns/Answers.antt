use lib.ListN.{length}
use Prim.Native.Nat.{min}
use Rattle.std.proofs.lemmas.Result.{err_from_is_err_and}
use Rattle.patterns.specs.Census.{rows_of}
use Rattle.map_theory.proofs.SideBySide.{rows-places}
use Rattle.census_entries.proofs.Decisions.{refused-table}
use Rattle.census_entries.proofs.Columns.{columns-kept}
use Rattle.census_entries.proofs.cycle_columns.Goals as goal

pub returns-in_err-table : goal.returns-in_err-table
returns-in_err-table c =
    let lengths = c.args.lengths.now in
    let counts = c.args.counts.now in
    let w = refused-table c.args.table.now c.in_err-table.ensures (min (length lengths) (length counts)) in
    let p = err_from_is_err_and c.from_residual.result c.from_residual.ensures.1 in
    rw (p.1, p.2)
    (record { reply = w.reply (rows_of lengths counts) (rows-places lengths counts); output = columns-kept lengths counts w })
