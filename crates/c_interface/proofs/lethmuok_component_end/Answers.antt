use mathlib.Core.Path.{◌≡◌, sym, ap, ◌∙◌, subst}
use native.Mathlib.Omega.{arith}
use borrow.Author.Rules.{rules}
use Rattle.patterns.specs.Replies.{answer_of, part_answer}
use Rattle.patterns.specs.SignedReplies.{signed_of}
use Rattle.c_interface.proofs.Fitting.{Fits}
use Rattle.c_interface.proofs.Parts.{end_in, end_fits, end_is}
use Rattle.c_interface.proofs.lethmuok_component_end.Goals as goal

pub reply_number-requires : goal.reply_number-requires
reply_number-requires c =
    let a = c.args in
    let shown : answer_of c.map.result ≡ end_in (part_answer c.stretch_of.result) = search rules in
    subst Fits (sym shown) (end_fits a.code.now a.position (λ j h. omega (arith, c.type_inv.code j)) c.well_formed.0.1 _ c.stretch_of.ensures)

pub returns : goal.returns
returns c =
    let a = c.args in
    let told : answer_of c.map.result ≡ end_in (part_answer c.stretch_of.result) = search rules in
    end_is a.code.now a.position (λ j h. omega (arith, c.type_inv.code j)) c.well_formed.0.1 _ c.stretch_of.ensures
    (c.reply_number.ensures ∙ ap signed_of told)
