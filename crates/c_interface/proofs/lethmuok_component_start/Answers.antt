use mathlib.Core.Path.{◌≡◌, sym, ap, ◌∙◌, subst}
use native.Mathlib.Omega.{arith}
use borrow.Author.Rules.{rules}
use Rattle.patterns.specs.Replies.{answer_of, part_answer}
use Rattle.patterns.specs.SignedReplies.{signed_of}
use Rattle.c_interface.proofs.Fitting.{Fits}
use Rattle.c_interface.proofs.Parts.{start_in, start_fits, start_is}
use Rattle.c_interface.proofs.lethmuok_component_start.Goals as goal

pub reply_number-requires : goal.reply_number-requires
reply_number-requires c =
    let a = c.args in
    let shown : answer_of c.map.result ≡ start_in (part_answer c.stretch_of.result) = search rules in
    subst Fits (sym shown) (start_fits a.code.now a.position (λ j h. omega (arith, c.type_inv.code j)) c.well_formed.0.1 _ c.stretch_of.ensures)

pub returns : goal.returns
returns c =
    let a = c.args in
    let told : answer_of c.map.result ≡ start_in (part_answer c.stretch_of.result) = search rules in
    start_is a.code.now a.position (λ j h. omega (arith, c.type_inv.code j)) c.well_formed.0.1 _ c.stretch_of.ensures
    (c.reply_number.ensures ∙ ap signed_of told)
