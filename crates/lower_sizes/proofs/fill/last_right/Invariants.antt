use Rattle.patterns.specs.Component.{flat}
use Rattle.component_theory.specs.Successor.{last_component}
use Rattle.size_lists.proofs.Filling.{Filling}
use Rattle.lower_sizes.proofs.fill.last_right.Given as goal

abbrev pub invariant-loop-size : goal.invariant-loop-size
invariant-loop-size l = Filling (λ s. flat (last_component s)) l.sizes l.trees l.size-index l.at
