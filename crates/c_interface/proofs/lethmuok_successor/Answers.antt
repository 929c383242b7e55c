use mathlib.Core.Path.{refl, ◌∙◌}
use native.Mathlib.Omega.{arith}
use Rattle.patterns.specs.Replies.{successor_answer}
use Rattle.signed_replies.proofs.Telling.{successor-signed}
use Rattle.c_interface.proofs.Fitting.{found-fits, replied-fits, reported}
use Rattle.c_interface.proofs.lethmuok_successor.Goals as goal

pub found_number-requires : goal.found_number-requires
found_number-requires c =
    found-fits (record { sfits = omega arith }) successor_answer (λ n. refl) c.successor.result (replied-fits c.well_formed.1.0.1 c.successor.ensures)

pub returns : goal.returns
returns c = reported c.well_formed.1.0.1 c.successor.ensures (c.found_number.ensures ∙ successor-signed c.successor.result)
