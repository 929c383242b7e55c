use Rattle.patterns.specs.Arithmetic.{product_of_codes}
use Rattle.arithmetic_entries.proofs.product.Goals as goal

pub returns : goal.returns
unfolding product_of_codes
returns c = c.combine_codes.ensures
