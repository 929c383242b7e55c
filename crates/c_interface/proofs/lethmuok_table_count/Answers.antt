use mathlib.Core.Path.{sym, ap, ◌∙◌, subst}
use Rattle.patterns.specs.SignedReplies.{signed_of}
use Rattle.c_interface.proofs.Fitting.{Fits, read_back}
use Rattle.c_interface.proofs.CountFits.{count_fits}
use Rattle.c_interface.proofs.lethmuok_table_count.Goals as goal

pub quantity_number-requires : goal.quantity_number-requires
quantity_number-requires c = subst Fits (sym c.table_count.ensures) (count_fits c.args.code.now)

pub returns : goal.returns
returns c =
    read_back (c.quantity_number.ensures ∙ ap signed_of c.table_count.ensures) (count_fits c.args.code.now)
