use native.Mathlib.Omega.{arith}
use Rattle.components.proofs.Climbing.{climbed-root}
use Rattle.components.proofs.unmerge.Goals as goal

pub returns-then-s-h : goal.returns-then-s-h
returns-then-s-h c =
    let l = c.leading-h in
    λ d e. climbed-root c.args.s.now l.result d e (l.ensures d e) (omega arith)
