use mathlib.Core.Path.{◌≡◌, ◌∙◌, ap}
use borrow.Author.Rules.{rules}
use Rattle.patterns.specs.Replies.{answer_of, quantity_answer, greatest_answer}
use Rattle.patterns.specs.SignedReplies.{signed_of, code_length, code_period}
use Rattle.signed_replies.proofs.Fitting.{read_back}
use Rattle.signed_replies.proofs.greatest_numbers.Goals as goal

pub returns : goal.returns
returns c =
    let length : answer_of c.map.result ≡ code_length (greatest_answer c.args.reply) = search rules in
    let period : quantity_answer c.map-2.result ≡ code_period (greatest_answer c.args.reply) = search rules in
    (read_back (c.reply_number.ensures ∙ ap signed_of length) c.requires.0, read_back (c.quantity_number.ensures ∙ ap signed_of period) c.requires.1)
