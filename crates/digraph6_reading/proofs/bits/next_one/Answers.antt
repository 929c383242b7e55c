use native.Mathlib.Omega.{arith}
use Rattle.digraph6_reading.proofs.FirstOnes.{byte-format, searching-next, searching-found, searching-end}
use Rattle.digraph6_reading.proofs.bits.next_one.Goals as goal

pub first_in-i-requires : goal.first_in-i-requires
first_in-i-requires c = (byte-format c.requires (omega arith), c.loop-k.invariant.place)

pub returns-then-i-lt6 : goal.returns-then-i-lt6
returns-then-i-lt6 c = searching-found c.loop-k.invariant (omega arith) c.first_in-i.ensures (omega arith)

pub loop-k-preserved : goal.loop-k-preserved
loop-k-preserved c = searching-next c.loop-k.invariant (omega arith) c.first_in-i.ensures (omega arith)

pub returns : goal.returns
returns c = searching-end c.loop-k.invariant c.requires.from (omega arith)
