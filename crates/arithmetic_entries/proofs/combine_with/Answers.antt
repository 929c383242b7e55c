use mathlib.Core.Path.{refl, sym}
use Rattle.std.proofs.lemmas.Result.{err_from_is_err_and}
use Rattle.patterns.specs.Arithmetic.{code_of_result}
use Rattle.combining.specs.Combining.{table_of}
use Rattle.decoding_entry.proofs.Decoded.{map-decoded, decoded-refused, decoded-points, decoded-checked, decoded-replied}
use Rattle.arithmetic_entries.proofs.combine_with.Goals as goal

-- the code was accepted, and its map stands in the first places
pub slice_bounds-g-end : goal.slice_bounds-g-end
slice_bounds-g-end c =
    sym (decoded-points (map-decoded c.args.second.now c.in_ok-m.ensures refl))

pub invariant_of-g : goal.invariant_of-g
invariant_of-g c =
    let checked = decoded-checked (map-decoded c.args.second.now c.in_ok-m.ensures refl) in
    record { table = checked.table; small = checked.small }

pub returns-in_err-m : goal.returns-in_err-m
returns-in_err-m c =
    let p = err_from_is_err_and c.from_residual.result c.from_residual.ensures.1 in
    rw (p.1, p.2) (decoded-refused c.args.second.now c.in_err-m.ensures c.points_room-room.ensures refl _ c.args.out.now)

pub returns : goal.returns
returns c =
    let decoded = map-decoded c.args.second.now c.in_ok-m.ensures refl in
    decoded-replied decoded (λ g. let a = c.args in code_of_result (table_of a.operation a.f.images.now g)) c.put_combined.ensures
