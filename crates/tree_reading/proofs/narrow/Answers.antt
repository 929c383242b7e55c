use mathlib.Core.Path.{◌≡◌, ap, ◌∙◌}
use Prim.Native.Nat.{◌+◌}
use native.Mathlib.Omega.{arith}
use lib.ListN.{take, get_or, set}
use Rattle.written.specs.Putting.{placed}
use Rattle.tree_reading.proofs.Narrowing.{narrow_next}
use Rattle.tree_reading.proofs.narrow.Goals as goal

pub loop-i-preserved : goal.loop-i-preserved
loop-i-preserved c =
    let a = c.args in
    let l = c.loop-i in
    let e : l.out ≡ placed a.at (take l.i a.s.now) a.out.now = l.invariant in
    let stored = ap (λ o. set o (a.at + l.i) (get_or a.s.now l.i 0)) e in
    stored ∙ narrow_next a.s.now a.out.now a.at l.i (omega arith) (omega arith)
