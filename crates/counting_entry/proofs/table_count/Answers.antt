use mathlib.Core.Path.{refl, sym}
use lib.Seq.{length-take-le}
use Rattle.std.proofs.lemmas.Result.{err_from_is_err_and}
use Rattle.acceptance.proofs.Taken.{code-taken, code-refused, taken-count, taken-points}
use Rattle.counting_entry.proofs.TableCounts.{code-fault, code-counted}
use Rattle.counting_entry.proofs.table_count.Goals as goal

-- the code was accepted, and memory holds its system
pub slice_bounds-sizes-end : goal.slice_bounds-sizes-end
slice_bounds-sizes-end c = taken-count (code-taken c.args.code.now c.in_ok-accepted.ensures _ refl)

pub slice_bounds-tables_with-end : goal.slice_bounds-tables_with-end
slice_bounds-tables_with-end c = sym (length-take-le _ _ (taken-count (code-taken c.args.code.now c.in_ok-accepted.ensures _ refl)))

pub slice_bounds-tables_with-end-2 : goal.slice_bounds-tables_with-end-2
slice_bounds-tables_with-end-2 c = sym (length-take-le _ _ (taken-points (code-taken c.args.code.now c.in_ok-accepted.ensures _ refl)))

pub slice_bounds-trees-end : goal.slice_bounds-trees-end
slice_bounds-trees-end c = taken-points (code-taken c.args.code.now c.in_ok-accepted.ensures _ refl)

pub tables_with-requires : goal.tables_with-requires
tables_with-requires c =
    let held = code-taken c.args.code.now c.in_ok-accepted.ensures _ refl in
    record { system = held.system; holds = held.holds; canonical_is = held.canonical_is; small = held.small }

pub returns-in_err-accepted : goal.returns-in_err-accepted
returns-in_err-accepted c =
    let p = err_from_is_err_and c.from_residual.result c.from_residual.ensures.1 in
    rw (p.1, p.2) (code-fault c.args.code.now _ (code-refused c.args.code.now c.in_err-accepted.ensures _ refl))

pub returns : goal.returns
returns c =
    let t = code-taken c.args.code.now c.in_ok-accepted.ensures _ refl in
    code-counted c.args.code.now t.system t.is (c.tables_with.ensures t.system t.holds)
