use native.Mathlib.Omega.{arith}
use Rattle.written.proofs.Placing.{put-short, put-long}
use Rattle.written.proofs.put_number.Goals as goal

pub returns-then-x-lt128 : goal.returns-then-x-lt128
returns-then-x-lt128 c =
    let a = c.args in
    put-short a.x a.at a.out.now (omega arith) c.requires.1

pub returns : goal.returns
returns c =
    let a = c.args in
    put-long a.x a.at a.out.now (omega arith) c.requires.1
