use Rattle.components.proofs.RotationAnswers.{told-least}
use Rattle.rotation.proofs.LeastTurn.{least-already}
use Rattle.rotation.proofs.least_start.Goals as goal

pub returns-in-Some : goal.returns-in-Some
returns-in-Some c = λ d e. least-already d (told-least d (c.least_rotation.ensures d e) _ c.in-Some.is)

pub returns-in-None : goal.returns-in-None
returns-in-None c = c.least_found.ensures
