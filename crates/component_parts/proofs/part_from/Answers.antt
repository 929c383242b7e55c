use Rattle.std.proofs.Common.{◌≡◌, Option, None, Some, IsSome, refl, arith}
use Rattle.components.proofs.RotationAnswers.{never-lesser}
use Rattle.component_parts.proofs.LocatedPart.{few_bytes}
use Rattle.component_parts.proofs.part_from.Goals as goal

pub overflow_add-end : goal.overflow_add-end
overflow_add-end c =
    let width = c.component_width in
    omega (arith, c.requires.1, few_bytes c.requires.0 width.result width.ensures)

some_else-none : {A : Type 0} (r : Option A) → (r ≡ None → ⊥) → IsSome r
some_else-none None f = absurd (f refl)
some_else-none (Some x) f = refl

pub unwrap-turns-requires : goal.unwrap-turns-requires
unwrap-turns-requires c = some_else-none c.least_rotation.result (never-lesser c.requires.0 c.least_rotation.ensures)
