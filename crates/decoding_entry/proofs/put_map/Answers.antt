use mathlib.Core.Path.{sym}
use native.Mathlib.Omega.{arith}
use lib.ListN.{length-take}
use lib.Seq.{length-take-le}
use Rattle.decoding_entry.proofs.MapsPut.{table-small, map-asked, table-within}
use Rattle.decoding_entry.proofs.put_map.Goals as goal

pub slice_bounds-table-end : goal.slice_bounds-table-end
slice_bounds-table-end c = let small = table-small c.args.system.held in omega arith

pub slice_bounds-map_of-end : goal.slice_bounds-map_of-end
slice_bounds-map_of-end c = let small = table-small c.args.system.held in rw length-take (omega arith)

pub map_of-requires : goal.map_of-requires
map_of-requires c = map-asked c.args.system.held _ c.points_room-table.ensures

pub slice_bounds-table-end-2 : goal.slice_bounds-table-end-2
slice_bounds-table-end-2 c = table-within c.args.system.held c.map_of.ensures _

pub slice_bounds-put-end : goal.slice_bounds-put-end
slice_bounds-put-end c = sym (length-take-le _ _ (table-within c.args.system.held c.map_of.ensures _))
