use Prim.Native.Nat.{◌+◌}
use native.Mathlib.Omega.{arith}
use Rattle.lines.proofs.LineTexts.{line-some}
use Rattle.lister.specs.Good.{Coming}
use Rattle.lister.proofs.NextStates.{coming-few}
use Rattle.lister.proofs.StepTexts.{added-put, line-text}
use Rattle.lister.proofs.put_code.Goals as goal

pub overflow_add-count : goal.overflow_add-count
overflow_add-count c =
    let C : Coming (c.args.lines + 1) c.args.code.now = c.requires.0 in
    omega (arith, coming-few C)

pub returns : goal.returns
returns c =
    added-put _ (omega arith) c.put_line-len.ensures (line-some (c.args.lines + 1) c.args.code.now)
    c.after-next.ensures (line-text c.args.lines c.requires.0)
