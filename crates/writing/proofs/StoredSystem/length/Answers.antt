use Rattle.writing.proofs.Locating.{length_found}
use Rattle.writing.proofs.StoredSystem.length.Goals as goal

pub returns : goal.returns
returns c = length_found c.beginning_of.ensures
