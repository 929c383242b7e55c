use native.Mathlib.Omega.{arith}
use Rattle.size_lists.proofs.Growing.{next-short, growing-start, growing-next, growing-end}
use Rattle.size_lists.proofs.next_sizes.Goals as goal

pub returns-then-m-lt2 : goal.returns-then-m-lt2
returns-then-m-lt2 c =
    next-short c.args.sizes.now c.args.m c.requires.within (omega arith)

pub loop-left-init : goal.loop-left-init
loop-left-init c =
    growing-start c.args.sizes.now c.args.m c.requires (omega arith)

pub loop-left-preserved : goal.loop-left-preserved
loop-left-preserved c = growing-next c.loop-left.invariant (omega arith)

pub returns : goal.returns
returns c = growing-end c.loop-left.invariant (omega arith)
