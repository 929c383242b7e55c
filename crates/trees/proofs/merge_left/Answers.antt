use mathlib.Core.Path.{ap, ◌∙◌}
use Prim.Native.Nat.{◌+◌}
use native.Mathlib.Omega.{arith}
use lib.ListN.{get_or, set}
use Rattle.trees.proofs.Merging.{reach, merged-left}
use Rattle.trees.proofs.merge_left.Goals as goal

pub returns : goal.returns
returns c =
    let s = c.args.s.now in
    let i = c.args.i in
    λ t u d e.
    ap (λ l. set l i (get_or s i 0 + get_or s (i + get_or s i 0) 0)) c.copy_from_slice.ensures.after
    ∙ merged-left s i t u d e

pub bounds-s-i : goal.bounds-s-i
bounds-s-i c = omega (arith, reach c.requires)

pub overflow_cast-j : goal.overflow_cast-j
overflow_cast-j c = omega (arith, reach c.requires)

pub overflow_add-j : goal.overflow_add-j
overflow_add-j c = omega (arith, reach c.requires)

pub bounds-s-i-2 : goal.bounds-s-i-2
bounds-s-i-2 c = omega (arith, reach c.requires)

pub bounds-s-j : goal.bounds-s-j
bounds-s-j c = omega (arith, reach c.requires)

pub overflow_add-out : goal.overflow_add-out
overflow_add-out c = omega (arith, reach c.requires)

pub bounds-out-i : goal.bounds-out-i
bounds-out-i c = omega (arith, reach c.requires)
