use Rattle.std.proofs.Common.{sym, ◌∙◌, arith}
use Rattle.cutting.proofs.Cutting.{cutting-start, cutting-refused, cutting-ended, cutting-open, cutting-truncated, cutting-end}
use Rattle.cutting.proofs.cut_into.Goals as goal
use Rattle.cutting.proofs.cut_into.Goals.{in-Whole, in-Begun}

pub loop-byte-init : goal.loop-byte-init
loop-byte-init c = cutting-start c.args.s.now c.args.out.now

pub returns-in_default : goal.returns-in_default
returns-in_default c =
    cutting-refused c.loop-byte.invariant (omega arith) c.unwrap_err.result
    (rw c.from.ensures at (sym c.unwrap_err.ensures ∙ c.cut_step-known.ensures))

pub loop-byte-preserved : goal.loop-byte-preserved
loop-byte-preserved c =
    let i = c.loop-byte.invariant in
    let byte = c.type_inv.s c.loop-byte.byte-index in
    let told = c.in-Ok.ensures in
    elim c.match-piece.branch [
      | in-Whole w ↦
          rw (w.out-is, w.numbers-is, w.first-is, w.place-is, w.keep.ensures)
          (cutting-ended i (omega arith) w.in-Whole.value (omega (arith, byte)) (rw (c.from.ensures, w.in-Whole.is) at told))
      | in-Begun w ↦
          rw (w.out-is, w.numbers-is, w.first-is, w.place-is)
          (cutting-open i (omega arith) w.in-Begun.value (omega (arith, byte)) (rw (c.from.ensures, w.in-Begun.is) at told))
    ]

pub returns-then-place-ne0 : goal.returns-then-place-ne0
returns-then-place-ne0 c = cutting-truncated c.loop-byte.invariant (omega arith) (omega arith)

pub returns : goal.returns
returns c = cutting-end c.loop-byte.invariant (omega arith) (omega arith)
