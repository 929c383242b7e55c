use Rattle.c_interface.proofs.Fitting.{replied-fits, reported}
use Rattle.c_interface.proofs.lethmuok_code_of_digraph6.Goals as goal

pub reply_number-requires : goal.reply_number-requires
reply_number-requires c = replied-fits c.well_formed.1.0.1 c.code_of_digraph6.ensures

pub returns : goal.returns
returns c = reported c.well_formed.1.0.1 c.code_of_digraph6.ensures c.reply_number.ensures
