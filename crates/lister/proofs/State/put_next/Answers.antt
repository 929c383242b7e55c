use mathlib.Core.Path.{sym, ◌∙◌}
use mathlib.Core.List.{append-nil}
use native.Mathlib.Omega.{arith}
use Rattle.patterns.specs.ListingText.{total_line}
use Rattle.lines.proofs.LineTexts.{header-some, total-some, lines_end, text-begins}
use Rattle.lister.proofs.NextStates.{done_state}
use Rattle.lister.proofs.StepTexts.{added-put, put_of}
use Rattle.lister.proofs.State.put_next.Goals as goal

pub returns-in-Header : goal.returns-in-Header
returns-in-Header c =
    let n = c.in-Header.n in
    put_of c.args.self c.in-Header.is
    (added-put _ (omega arith) c.put_header-len.ensures (header-some n) c.first-next.ensures (text-begins n))

pub returns-in-Total : goal.returns-in-Total
returns-in-Total c =
    let count = c.in-Total.count in
    put_of c.args.self c.in-Total.is
    (added-put _ (omega arith) c.put_total-len.ensures (total-some count) (done_state c.at-next-in-Total.result c.at-next-in-Total.ensures)
    (lines_end count ∙ sym (append-nil (total_line count))))
