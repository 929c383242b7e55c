use Rattle.stepping.proofs.Following.{next-asked}
use Rattle.stepping.proofs.follow.Goals as goal

pub next_system-requires : goal.next_system-requires
next_system-requires c =
    next-asked c.requires _ _ _ c.points_room-up.ensures c.points_room-side.ensures c.points_room-work.ensures
