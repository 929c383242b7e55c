use mathlib.Core.List.{List}
use Prim.Native.Nat.{ℕ}
use Rattle.writing.proofs.Placements.{put-room}
use Rattle.writing.proofs.StoredSystem.put.Goals as goal

pub write-requires : goal.write-requires
write-requires c =
    let output : List ℕ =
    c.args.out.now in
    put-room c.args.self.held output c.lacks_room.ensures c.if-lacks_room.false
