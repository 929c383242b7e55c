-- What the test of a component's rotations answers.
use Rattle.std.specs.Prelude.{ℕ, Option}
use Rattle.lists.specs.Order.{at_most}
use Rattle.lists.specs.Select.{each}
use Rattle.patterns.specs.Component.{Component, compare_component, rotations, rotation_symmetry}
use Rattle.std.specs.Bool.{then_some}

-- how many rotations equal the component, where none is less
abbrev pub rotation_test : Component → Option ℕ
rotation_test c = then_some (each (at_most compare_component c) (rotations c)) (rotation_symmetry c)
