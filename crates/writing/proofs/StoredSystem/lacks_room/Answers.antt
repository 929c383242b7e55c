use Rattle.std.proofs.Common.{sym, ◌∙◌, length, arith}
use borrow.Author.Tests.{le-ltb}
use Rattle.patterns.specs.Written.{written}
use Rattle.writing.proofs.Placements.{held-short}
use Rattle.writing.proofs.StoredSystem.lacks_room.Goals as goal

pub returns-else-room-lt1000 : goal.returns-else-room-lt1000
returns-else-room-lt1000 c =
    let room = c.args.room in
    λ S h. le-ltb room 1000 (omega arith) ∙ sym (le-ltb room (length (written S)) (omega (arith, held-short c.args.self.held S h)))
