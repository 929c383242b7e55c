use native.Mathlib.Omega.{arith}
use borrow.Author.Rules.{rules}
use Rattle.census.proofs.Filling.{filled-start, filled_next}
use Rattle.census.proofs.fill.Goals as goal

pub loop-i-init : goal.loop-i-init
loop-i-init c = filled-start c.args.rows c.args.out.now

pub loop-i-preserved : goal.loop-i-preserved
loop-i-preserved c =
    filled_next c.args.rows c.args.out.now (search rules) (search rules) c.loop-i.i (omega arith) c.loop-i.invariant (omega arith) c.row.result
    c.row.ensures
