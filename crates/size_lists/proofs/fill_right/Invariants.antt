use Rattle.size_lists.specs.SizesHeld.{fill_trees}
use Rattle.size_lists.proofs.Filling.{Filling}
use Rattle.size_lists.proofs.fill_right.Given as goal

abbrev pub invariant-loop-size : goal.invariant-loop-size
invariant-loop-size l = Filling (fill_trees l.d) l.sizes l.trees l.size-index l.at
