use Rattle.greatest_period_entry.proofs.Cycles.{cycles-hold, cycles-room}
use Rattle.greatest_period_entry.proofs.write_cycles.Goals as goal

pub invariant_of-write : goal.invariant_of-write
invariant_of-write c = let room = cycles-room c.requires (c.fill.ensures.after (λ y e. e)) in record { held = room.held }

pub write-requires : goal.write-requires
write-requires c = cycles-room c.requires (c.fill.ensures.after (λ y e. e))

pub returns : goal.returns
returns c = c.write.ensures _ (cycles-hold c.requires (c.fill.ensures.after (λ y e. e)))
