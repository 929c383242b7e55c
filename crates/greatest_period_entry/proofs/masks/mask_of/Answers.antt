use mathlib.Core.Path.{refl}
use Rattle.greatest_period_entry.specs.LandauLengths.{masks}
use Rattle.greatest_period_entry.proofs.masks.mask_of.Goals as goal

-- the table of the code is the one that the definitions have
pub returns : goal.returns
unfolding masks
returns c = refl
