use Rattle.std.proofs.Common.{arith}
use Rattle.writing.proofs.Placements.{numbering-fits, numbering-next}
use Rattle.writing.proofs.write_numbers.Goals as goal

pub put_number-next-requires : goal.put_number-next-requires
put_number-next-requires c =
    let l = c.loop-x in
    rw c.from.ensures (omega (arith, c.type_inv.s l.x-index), numbering-fits l.invariant (omega arith))

pub loop-x-preserved : goal.loop-x-preserved
loop-x-preserved c = numbering-next c.loop-x.invariant _ _ (omega arith) (rw c.from.ensures at c.put_number-next.ensures)
