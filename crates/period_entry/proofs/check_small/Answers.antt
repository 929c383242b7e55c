use native.Mathlib.Omega.{arith}
use Rattle.tables.proofs.SmallTables.{small_count, small-large}
use Rattle.period_entry.proofs.SmallTables.{small-checked}
use Rattle.period_entry.proofs.check_small.Goals as goal

pub returns-then-images-gt200 : goal.returns-then-images-gt200
returns-then-images-gt200 c = small_count c.args.images.now (omega arith)

pub returns-then-images-gt120 : goal.returns-then-images-gt120
returns-then-images-gt120 c = small-large c.args.images.now (omega arith) (omega arith)

pub returns : goal.returns
returns c = small-checked c.args.images.now c.check.result (omega arith) c.check.ensures
