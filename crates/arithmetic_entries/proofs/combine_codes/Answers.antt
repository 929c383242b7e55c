use mathlib.Core.Path.{refl, sym}
use Rattle.std.proofs.lemmas.Result.{err_from_is_err_and}
use Rattle.patterns.specs.MapOf.{map_of}
use Rattle.patterns.specs.Reading.{accepted}
use Rattle.patterns.specs.Entry.{outcome}
use Rattle.patterns.specs.Arithmetic.{code_of_result}
use Rattle.combining.specs.Combining.{table_of}
use Rattle.decoding_entry.proofs.Decoded.{map-decoded, decoded-refused, decoded-points, decoded-checked, decoded-replied}
use Rattle.arithmetic_entries.proofs.combine_codes.Goals as goal

-- the code was accepted, and its map stands in the first places
pub slice_bounds-f-end : goal.slice_bounds-f-end
slice_bounds-f-end c =
    sym (decoded-points (map-decoded c.args.first.now c.in_ok-n.ensures refl))

pub invariant_of-f : goal.invariant_of-f
invariant_of-f c =
    let checked = decoded-checked (map-decoded c.args.first.now c.in_ok-n.ensures refl) in
    record { table = checked.table; small = checked.small }

pub returns-in_err-n : goal.returns-in_err-n
returns-in_err-n c =
    let p = err_from_is_err_and c.from_residual.result c.from_residual.ensures.1 in
    rw (p.1, p.2) (decoded-refused c.args.first.now c.in_err-n.ensures c.points_room-room.ensures refl _ c.args.out.now)

pub returns : goal.returns
returns c =
    let decoded = map-decoded c.args.first.now c.in_ok-n.ensures refl in
    decoded-replied decoded (λ f. let a = c.args in outcome (accepted a.second.now) (λ T. code_of_result (table_of a.operation f (map_of T)))) c.combine_with.ensures
