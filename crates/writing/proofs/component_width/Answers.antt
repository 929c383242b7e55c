use native.Mathlib.Omega.{arith}
use Rattle.form_theory.proofs.Numbers.{write-length}
use Rattle.writing.proofs.Locating.{codes-bound}
use Rattle.writing.proofs.component_width.Goals as goal

pub overflow_add-result : goal.overflow_add-result
overflow_add-result c =
    omega (arith, c.width.ensures, (write-length c.count-k.result).1, c.total_width.ensures, codes-bound c.requires)
