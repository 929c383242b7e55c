use mathlib.Core.Path.{refl, sym}
use Rattle.std.proofs.lemmas.Result.{err_from_is_err_and}
use Rattle.patterns.specs.Entry.{Outcome.gives}
use Rattle.patterns.specs.Digraph6.{digraph6, digraph6_of_code}
use Rattle.decoding_entry.proofs.Decoded.{map-decoded, decoded-refused, decoded-points, decoded-checked, decoded-replied}
use Rattle.digraph6_entries.proofs.digraph6_of_code.Goals as goal

-- the code was accepted, and its map stands in the first places
pub slice_bounds-table-end : goal.slice_bounds-table-end
slice_bounds-table-end c =
    sym (decoded-points (map-decoded c.args.code.now c.in_ok-n.ensures refl))

pub invariant_of-table : goal.invariant_of-table
invariant_of-table c =
    let checked = decoded-checked (map-decoded c.args.code.now c.in_ok-n.ensures refl) in
    record { table = checked.table; small = checked.small }

pub returns-in_err-n : goal.returns-in_err-n
unfolding digraph6_of_code
returns-in_err-n c =
    let p = err_from_is_err_and c.from_residual.result c.from_residual.ensures.1 in
    rw (p.1, p.2) (decoded-refused c.args.code.now c.in_err-n.ensures c.points_room-room.ensures refl _ c.args.out.now)

pub returns : goal.returns
unfolding digraph6_of_code
returns c =
    let decoded = map-decoded c.args.code.now c.in_ok-n.ensures refl in
    decoded-replied decoded (λ f. gives (digraph6 f)) c.put_line.ensures
