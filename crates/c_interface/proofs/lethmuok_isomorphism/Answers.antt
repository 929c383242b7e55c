use mathlib.Core.Path.{refl, ◌∙◌}
use native.Mathlib.Omega.{arith}
use Rattle.patterns.specs.Replies.{isomorphism_answer}
use Rattle.signed_replies.proofs.Telling.{isomorphism-signed}
use Rattle.c_interface.proofs.Fitting.{found-fits, isomorphism-fits, isomorphism-reported}
use Rattle.c_interface.proofs.lethmuok_isomorphism.Goals as goal

pub found_number-requires : goal.found_number-requires
found_number-requires c =
    found-fits (record { sfits = omega arith }) isomorphism_answer (λ n. refl) c.isomorphism.result (isomorphism-fits c.well_formed.1.1.0.1 c.isomorphism.ensures)

pub returns : goal.returns
returns c =
    isomorphism-reported c.well_formed.1.1.0.1 c.isomorphism.ensures (c.found_number.ensures ∙ isomorphism-signed c.isomorphism.result)
