use native.Mathlib.Omega.{arith}
use lib.ListN.{length-take}
use Rattle.page_entry.proofs.PageReply.{short-replied, page-fits-in, whole-replied}
use Rattle.page_entry.proofs.put_page.Goals as goal

pub write_page-requires : goal.write_page-requires
write_page-requires c = page-fits-in c.requires c.args.out.now c.lacks_room.ensures c.if-lacks_room.false

pub slice_bounds-write_page-end-2 : goal.slice_bounds-write_page-end-2
slice_bounds-write_page-end-2 c = let within = c.requires.within in rw length-take (omega arith)

pub returns-then-lacks_room : goal.returns-then-lacks_room
returns-then-lacks_room c = short-replied c.requires c.args.out.now c.lacks_room.ensures c.if-lacks_room.true

pub returns : goal.returns
returns c = whole-replied c.requires c.args.out.now c.lacks_room.ensures c.if-lacks_room.false c.write_page.ensures
