use mathlib.Core.Path.{refl}
use Rattle.cycles.proofs.Marks.{inside}
use Rattle.census.proofs.CensusRows.{counted-room, rows-listed}
use Rattle.census.proofs.rows_of.Goals as goal

pub list_rows-rows-requires : goal.list_rows-rows-requires
list_rows-rows-requires c =
    let f = c.args.table.images.now in
    counted-room f _ c.count_cycles.ensures (inside f c.args.table.table) c.args.table.small refl refl

pub returns : goal.returns
returns c =
    let f = c.args.table.images.now in
    rows-listed f _ c.count_cycles.ensures (inside f c.args.table.table) c.args.table.small c.list_rows-rows.ensures
