use Rattle.listing.proofs.Outputs.{starts-count, starts-bad}
use Rattle.listing.proofs.start.Goals as goal

pub returns-in-Some : goal.returns-in-Some
returns-in-Some c = starts-count c.args.input.now c.in-Some.n c.at.result (rw c.in-Some.is at c.parse.ensures) c.at.ensures

pub returns-in-None : goal.returns-in-None
returns-in-None c = starts-bad c.args.input.now c.at-in-None.result (rw c.in-None.is at c.parse.ensures) c.at-in-None.ensures
