use Rattle.stepping.proofs.Following.{next-asked}
use Rattle.preceding.proofs.precede.Goals as goal

pub previous_system-requires : goal.previous_system-requires
previous_system-requires c =
    next-asked c.requires _ _ _ c.points_room-up.ensures c.points_room-side.ensures c.points_room-work.ensures
