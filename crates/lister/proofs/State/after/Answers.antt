use mathlib.Core.Path.{refl}
use Rattle.patterns.specs.Replies.{number_of}
use Rattle.lister.proofs.NextStates.{next-line, next_last, next-refused}
use Rattle.lister.proofs.State.after.Goals as goal

pub returns-in-Ok-Some : goal.returns-in-Ok-Some
returns-in-Ok-Some c =
    next-line c.requires _ refl (rw c.in-Ok-Some.field-0-is at c.in-Ok-Some.ensures)

pub returns-in-Ok-None : goal.returns-in-Ok-None
returns-in-Ok-None c =
    next_last c.requires c.at.result c.at.ensures (rw c.in-Ok-None.field-0-is at c.in-Ok-None.ensures)

pub returns-in-Err : goal.returns-in-Err
returns-in-Err c =
    absurd (next-refused c.requires (number_of c.in-Err.field-0) refl
    (rw c.in-Err.is at c.successor.ensures))
