use mathlib.Core.Path.{refl, ◌∙◌}
use native.Mathlib.Omega.{arith}
use Rattle.patterns.specs.Replies.{predecessor_answer}
use Rattle.signed_replies.proofs.Telling.{predecessor-signed}
use Rattle.c_interface.proofs.Fitting.{found-fits, replied-fits, reported}
use Rattle.c_interface.proofs.lethmuok_predecessor.Goals as goal

pub found_number-requires : goal.found_number-requires
found_number-requires c =
    found-fits (record { sfits = omega arith }) predecessor_answer (λ n. refl) c.predecessor.result (replied-fits c.well_formed.1.0.1 c.predecessor.ensures)

pub returns : goal.returns
returns c = reported c.well_formed.1.0.1 c.predecessor.ensures (c.found_number.ensures ∙ predecessor-signed c.predecessor.result)
