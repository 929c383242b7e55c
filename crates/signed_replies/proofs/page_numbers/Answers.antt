use mathlib.Core.Path.{◌≡◌, ◌∙◌, ap}
use borrow.Author.Rules.{rules}
use Rattle.patterns.specs.Replies.{answer_of, page_answer}
use Rattle.patterns.specs.SignedReplies.{signed_of, page_count, page_length}
use Rattle.signed_replies.proofs.Fitting.{read_back}
use Rattle.signed_replies.proofs.page_numbers.Goals as goal

pub returns : goal.returns
returns c =
    let codes : answer_of c.map.result ≡ page_count (page_answer c.args.reply) = search rules in
    let bytes : answer_of c.map-2.result ≡ page_length (page_answer c.args.reply) = search rules in
    (read_back (c.reply_number.ensures ∙ ap signed_of codes) c.requires.0, read_back (c.reply_number-2.ensures ∙ ap signed_of bytes) c.requires.1)
