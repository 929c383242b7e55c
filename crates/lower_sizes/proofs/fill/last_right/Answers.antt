use mathlib.Core.Path.{refl, sym, ◌∙◌}
use native.Mathlib.Omega.{arith}
use Rattle.lists.proofs.Gathering.{gather-map}
use Rattle.patterns.specs.Component.{flat}
use Rattle.component_theory.specs.Successor.{last_component}
use Rattle.size_lists.proofs.Filling.{filling-start, filling-fits, filling-next, filling-end}
use Rattle.lower_sizes.proofs.LastTrees.{length_last}
use Rattle.lower_sizes.proofs.fill.last_right.Goals as goal

pub loop-size-init : goal.loop-size-init
loop-size-init c =
    filling-start length_last c.args.sizes.now c.args.trees.now c.requires

pub overflow_add-end : goal.overflow_add-end
overflow_add-end c = omega (arith, filling-fits c.loop-size.invariant (omega arith))

pub slice_bounds-last_component-end : goal.slice_bounds-last_component-end
slice_bounds-last_component-end c = filling-fits c.loop-size.invariant (omega arith)

pub loop-size-preserved : goal.loop-size-preserved
loop-size-preserved c = filling-next c.loop-size.invariant _ _ (omega arith) refl c.last_component.ensures

pub returns : goal.returns
returns c =
    filling-end c.loop-size.invariant (omega arith) ∙ sym (gather-map flat last_component c.args.sizes.now)
