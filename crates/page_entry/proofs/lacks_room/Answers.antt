use mathlib.Core.Path.{ap}
use native.Mathlib.Omega.{arith}
use lib.Dec.{ltb}
use lib.ListN.{length-take}
use Rattle.page_entry.proofs.PageReply.{roomy-enough}
use Rattle.page_entry.proofs.lacks_room.Goals as goal

pub overflow_mul-wanted : goal.overflow_mul-wanted
overflow_mul-wanted c = omega (arith, c.requires.few)

pub returns-then-wanted-room : goal.returns-then-wanted-room
returns-then-wanted-room c = roomy-enough c.requires c.args.room c.if-wanted-room.true

pub slice_bounds-page_length-end-2 : goal.slice_bounds-page_length-end-2
slice_bounds-page_length-end-2 c = let fits = c.requires.within in rw length-take (omega arith)

pub page_length-requires : goal.page_length-requires
page_length-requires c = let w = c.requires in record { held = w.held; few = omega (arith, w.few) }

pub returns : goal.returns
returns c = λ S h. ap (ltb c.args.room) (c.page_length.ensures S h)
