use Rattle.std.proofs.lemmas.Result.{err_from_is_err_and}
use Rattle.patterns.specs.Entry.{code_of_map}
use Rattle.patterns.proofs.Outcomes.{outcome-refused}
use Rattle.coding_entry.proofs.CodedPut.{map-coded}
use Rattle.coding_entry.proofs.code_of_map.Goals as goal

pub returns-in_err-table : goal.returns-in_err-table
unfolding code_of_map
returns-in_err-table c =
    let p = err_from_is_err_and c.from_residual.result c.from_residual.ensures.1 in
    rw (p.1, p.2) (outcome-refused _ c.args.out.now c.in_err-table.field-0.0 c.in_err-table.ensures)

pub returns : goal.returns
returns c =
    let e = c.in_ok-table.ensures in
    map-coded c.args.table.now e.1 (rw e.0 at c.put_code.ensures)
