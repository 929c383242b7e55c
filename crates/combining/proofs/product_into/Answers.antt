use Prim.Native.Nat.{◌<◌}
use native.Mathlib.Omega.{arith}
use lib.ListN.{length}
use Rattle.combining.proofs.ShiftedNumbers.{shift-asked}
use Rattle.combining.proofs.Pairing.{image-pairs, pairs-fit, pairing-next, pairing-end}
use Rattle.combining.proofs.product_into.Goals as goal

pub loop-i-preserved : goal.loop-i-preserved
loop-i-preserved c =
    pairing-next c.loop-i.invariant c.requires.room (omega arith) (rw c.from.ensures at c.shift_into.ensures)

pub shift_into-requires : goal.shift_into-requires
shift_into-requires c =
    let here : c.loop-i.i < length c.args.f.now = omega arith in
    rw c.from.ensures
    (shift-asked _ _ c.args.g.now c.loop-i.out c.requires.second (pairs-fit c.loop-i.invariant c.requires.room here) (image-pairs c.requires here))

pub returns : goal.returns
returns c = pairing-end c.loop-i.invariant c.requires.room (omega arith)
