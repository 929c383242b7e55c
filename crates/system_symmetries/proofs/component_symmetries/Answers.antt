use native.Mathlib.Omega.{arith}
use Rattle.components.proofs.RotationAnswers.{told-turns, never-lesser}
use Rattle.system_symmetries.proofs.ComponentWalks.{turned-symmetries, turned-small}
use Rattle.system_symmetries.proofs.component_symmetries.Goals as goal

-- how many rotations equal the component
pub overflow_mul-result : goal.overflow_mul-result
overflow_mul-result c =
    omega (arith, turned-small c.requires.0 c.requires.1 (λ d e. told-turns d (c.least_rotation.ensures d e) c.in-Some.turns c.in-Some.is) c.trees_symmetries-trees.ensures)

pub returns-in-Some : goal.returns-in-Some
returns-in-Some c =
    turned-symmetries c.requires.0 c.requires.1 (λ d e. told-turns d (c.least_rotation.ensures d e) c.in-Some.turns c.in-Some.is) c.trees_symmetries-trees.ensures

pub returns-in-None : goal.returns-in-None
returns-in-None c = absurd (never-lesser c.requires.0 c.least_rotation.ensures c.in-None.is)
