-- One component of a written code.
use Rattle.std.specs.Prelude.{cond, ◌||◌, List, [], ◌∷◌, ℕ, ltb, eqb}
use Rattle.patterns.specs.declared.Refusal.TheVariants.{Truncated, Sizes}
use Rattle.patterns.specs.Component.{Component}
use Rattle.patterns.specs.Reading.{Result, fault, read_trees}

-- one component, from the points left of n: the number of trees, then the trees (`read_components` reads m of these)
unfoldable pub read_component : ℕ → List ℕ → Result Component
unfolding read_trees
read_component left [] = fault Truncated
read_component left (k ∷ s) =
    let trees = read_trees k left s in
    cond (eqb k 0 || ltb left k) (fault Sizes) trees
