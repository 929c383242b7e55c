use borrow.Author.Rules.{rules}
use native.Mathlib.Omega.{arith}
use Rattle.tables.proofs.Tables.{checked-passes}
use Rattle.census_entries.proofs.Decisions.{chosen-short, chosen-fits}
use Rattle.census_entries.proofs.choose.Goals as goal

pub returns-then-places-rows : goal.returns-then-places-rows
returns-then-places-rows c =
    let t = c.args.table in
    let checked = checked-passes t.images.now (record { table = t.table; small = t.small }) in
    chosen-short t.images.now checked c.cycle_rows-rows.result c.cycle_rows-rows.ensures (search rules) (search rules) c.args.places (omega arith)

pub returns : goal.returns
returns c =
    let t = c.args.table in
    let checked = checked-passes t.images.now (record { table = t.table; small = t.small }) in
    chosen-fits t.images.now checked c.cycle_rows-rows.result c.cycle_rows-rows.ensures (search rules) (search rules) c.args.places (omega arith)
