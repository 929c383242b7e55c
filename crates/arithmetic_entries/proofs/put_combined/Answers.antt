use mathlib.Core.Path.{sym}
use native.Mathlib.Omega.{arith}
use lib.ListN.{length-take}
use lib.Seq.{length-take-le}
use Rattle.arithmetic_entries.proofs.Combined.{combined-refused, combine-asked, table-within, combined-coded}
use Rattle.arithmetic_entries.proofs.put_combined.Goals as goal

pub returns-then-k-gt200 : goal.returns-then-k-gt200
returns-then-k-gt200 c =
    combined-refused c.args.operation c.args.f c.args.g c.points-k.ensures c.args.out.now (omega arith)

pub slice_bounds-combine-end : goal.slice_bounds-combine-end
slice_bounds-combine-end c = let l = c.points_room-table.ensures in rw length-take (omega arith)

pub combine-requires : goal.combine-requires
combine-requires c =
    combine-asked c.args.operation c.args.f c.args.g c.points-k.ensures (omega arith) _ c.points_room-table.ensures

pub slice_bounds-table-end-2 : goal.slice_bounds-table-end-2
slice_bounds-table-end-2 c =
    table-within c.args.operation c.args.f c.args.g c.points-k.ensures (omega arith) c.combine.ensures _

pub slice_bounds-code_of_map-end : goal.slice_bounds-code_of_map-end
slice_bounds-code_of_map-end c =
    sym (length-take-le _ _ (table-within c.args.operation c.args.f c.args.g c.points-k.ensures (omega arith) c.combine.ensures _))

pub returns : goal.returns
returns c =
    combined-coded c.args.operation c.args.f c.args.g c.points-k.ensures (omega arith) c.combine.ensures _
    c.code_of_map.ensures
