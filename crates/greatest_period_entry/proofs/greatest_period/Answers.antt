use native.Mathlib.Omega.{arith}
use Rattle.patterns.specs.GreatestPeriod.{request_refused}
use Rattle.greatest_period_entry.proofs.Requests.{request-count, request-many, request-room}
use Rattle.greatest_period_entry.proofs.greatest_period.Goals as goal

pub returns-then-n-gt200 : goal.returns-then-n-gt200
returns-then-n-gt200 c = let a = c.args in request_refused (request-count a.n a.out.now (omega arith))

pub returns-then-n-gt120 : goal.returns-then-n-gt120
returns-then-n-gt120 c = let a = c.args in request_refused (request-many a.n a.out.now (omega arith) (omega arith))

pub returns-then-out-lt1000 : goal.returns-then-out-lt1000
returns-then-out-lt1000 c = let a = c.args in request_refused (request-room a.n a.out.now (omega arith) (omega arith))
