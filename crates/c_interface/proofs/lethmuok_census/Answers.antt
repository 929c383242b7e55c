use Rattle.c_interface.proofs.Measures.{columns-fit, census-reported}
use Rattle.c_interface.proofs.lethmuok_census.Goals as goal

pub reply_number-requires : goal.reply_number-requires
reply_number-requires c = columns-fit c.cycle_columns.ensures

pub returns : goal.returns
returns c = census-reported c.cycle_columns.ensures c.reply_number.ensures
