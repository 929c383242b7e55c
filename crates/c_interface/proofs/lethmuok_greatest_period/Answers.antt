use Rattle.c_interface.proofs.GreatestFits.{greatest-fit}
use Rattle.c_interface.proofs.lethmuok_greatest_period.Goals as goal

pub greatest_numbers-requires : goal.greatest_numbers-requires
greatest_numbers-requires c = greatest-fit c.greatest_period.ensures
