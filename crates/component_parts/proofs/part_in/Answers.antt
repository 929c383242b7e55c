use native.Mathlib.Omega.{arith}
use Rattle.std.specs.Prelude.{Ok}
use Rattle.patterns.specs.Replies.{part_answer}
use Rattle.writing.proofs.Locating.{begin-bound, next_fits}
use Rattle.component_parts.proofs.LocatedPart.{code-held, component-held, located}
use Rattle.component_parts.proofs.part_in.Goals as goal

pub invariant_of-beginning_of : goal.invariant_of-beginning_of
invariant_of-beginning_of c = record { held = code-held c.requires }

pub overflow_add-to : goal.overflow_add-to
overflow_add-to c = omega (arith, c.from.ensures, next_fits (code-held c.requires) c.beginning_of-begin.ensures (omega arith))

pub slice_bounds-part_from-end : goal.slice_bounds-part_from-end
slice_bounds-part_from-end c = omega (arith, c.from.ensures, next_fits (code-held c.requires) c.beginning_of-begin.ensures (omega arith))

pub part_from-found-requires : goal.part_from-found-requires
part_from-found-requires c =
    let w = c.requires in
    rw c.from.ensures (component-held w c.beginning_of-begin.ensures (omega arith), begin-bound (code-held w) c.beginning_of-begin.ensures)

pub returns : goal.returns
returns c =
    located c.requires c.beginning_of-begin.ensures (omega arith) (part_answer (Ok c.part_from-found.result)) (rw c.from.ensures at c.part_from-found.ensures)
