use mathlib.Core.Path.{sym, ◌∙◌}
use native.Mathlib.Omega.{arith}
use Rattle.distances.proofs.Noting.{noted-table, near, noting-start, noting-byte, noting-next, noting-end}
use Rattle.distances.proofs.note_way.Goals as goal

pub overflow_add-note : goal.overflow_add-note
overflow_add-note c =
    let known = noted-table c.args.table.table c.args.table.small c.requires.known in
    omega (arith, c.requires.told, near known c.args.x c.requires.here, known.small)

pub loop-noted-init : goal.loop-noted-init
loop-noted-init c = noting-start (noted-table c.args.table.table c.args.table.small c.requires.known) c.requires.here c.requires.told

pub overflow_cast-noted : goal.overflow_cast-noted
overflow_cast-noted c = omega (arith, noting-byte c.loop-noted.invariant)

pub overflow_sub-note : goal.overflow_sub-note
overflow_sub-note c = omega (arith, noting-byte c.loop-noted.invariant)

pub loop-noted-smaller : goal.loop-noted-smaller
loop-noted-smaller c = omega (arith, noting-byte c.loop-noted.invariant)

pub loop-noted-preserved : goal.loop-noted-preserved
loop-noted-preserved c = noting-next c.loop-noted.invariant c.loop-noted-test.true

pub shape_of-noted : goal.shape_of-noted
shape_of-noted c = c.loop-noted.invariant.known.is_noted.same ∙ sym c.requires.known.same

pub returns : goal.returns
returns c = noting-end c.loop-noted.invariant
