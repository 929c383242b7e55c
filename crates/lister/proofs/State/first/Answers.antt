use mathlib.Core.Path.{refl}
use Rattle.patterns.specs.Replies.{number_of}
use Rattle.lister.proofs.NextStates.{first-line, first_refused}
use Rattle.lister.proofs.State.first.Goals as goal

pub returns-in-Ok : goal.returns-in-Ok
returns-in-Ok c =
    first-line c.args.n _ c.requires refl (rw c.in-Ok.is at c.first.ensures)

pub returns-in-Err : goal.returns-in-Err
returns-in-Err c =
    absurd (first_refused c.args.n (number_of c.in-Err.field-0) c.requires refl
    (rw c.in-Err.is at c.first.ensures))
