use Rattle.code_entries.proofs.FirstPut.{first_refused}
use Rattle.code_entries.proofs.first.Goals as goal

pub returns-then-n-gt200 : goal.returns-then-n-gt200
returns-then-n-gt200 c = first_refused c.args.n c.args.out.now c.if-n-gt200.true
