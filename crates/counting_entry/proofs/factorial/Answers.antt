use native.Mathlib.Omega.{arith}
use Rattle.counting_entry.proofs.Factorials.{no-factors, product_small, factors-next, factors-end}
use Rattle.counting_entry.proofs.factorial.Goals as goal

pub loop-i-init : goal.loop-i-init
loop-i-init c = no-factors c.args.n

pub overflow_mul-product : goal.overflow_mul-product
overflow_mul-product c = omega (arith, product_small c.loop-i.invariant c.requires (omega arith))

pub loop-i-preserved : goal.loop-i-preserved
loop-i-preserved c = factors-next c.loop-i.invariant (omega arith)

pub returns : goal.returns
returns c = factors-end c.loop-i.invariant (omega arith)

pub returns-2 : goal.returns-2
returns-2 c = factors-end (factors-next c.loop-i.invariant (omega arith)) (omega arith)
