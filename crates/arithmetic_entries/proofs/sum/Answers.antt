use Rattle.patterns.specs.Arithmetic.{sum_of_codes}
use Rattle.arithmetic_entries.proofs.sum.Goals as goal

pub returns : goal.returns
unfolding sum_of_codes
returns c = c.combine_codes.ensures
