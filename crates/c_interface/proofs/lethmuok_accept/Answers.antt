use mathlib.Core.Path.{sym, ap, ◌∙◌, subst}
use Rattle.patterns.specs.SignedReplies.{signed_of}
use Rattle.c_interface.proofs.Fitting.{Fits, read_back, accept-fits}
use Rattle.c_interface.proofs.lethmuok_accept.Goals as goal

pub reply_number-requires : goal.reply_number-requires
reply_number-requires c = subst Fits (sym c.accept.ensures) (accept-fits c.args.code.now)

pub returns : goal.returns
returns c = read_back (c.reply_number.ensures ∙ ap signed_of c.accept.ensures) (accept-fits c.args.code.now)
