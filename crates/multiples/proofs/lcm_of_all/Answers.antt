use Prim.Native.Nat.{◌<◌}
use native.Mathlib.Omega.{arith}
use lib.ListN.{length}
use Rattle.lists.proofs.Places.{in-index}
use Rattle.multiples.proofs.LcmSteps.{gathered-start, gathered-asked, gathered_next, gathered-end}
use Rattle.multiples.proofs.lcm_of_all.Goals as goal

pub loop-x-init : goal.loop-x-init
loop-x-init c = gathered-start c.args.s.now

pub lcm-multiple-requires : goal.lcm-multiple-requires
lcm-multiple-requires c =
    let here : c.loop-x.x-index < length c.args.s.now = omega arith in
    rw c.from.ensures (gathered-asked c.loop-x.invariant c.requires _ (in-index c.args.s.now c.loop-x.x-index 0 here))

pub loop-x-preserved : goal.loop-x-preserved
loop-x-preserved c = gathered_next c.loop-x.invariant (omega arith) (rw c.from.ensures at c.lcm-multiple.ensures)

pub returns : goal.returns
returns c = gathered-end c.loop-x.invariant (omega arith)
