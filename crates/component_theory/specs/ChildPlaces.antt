-- The children of a component by their places among its candidates.
use Rattle.std.specs.Prelude.{List, [], reverse, ℕ, ◌-◌, length}
use Rattle.std.proofs.Math.Option.{Option}
use Rattle.lists.specs.Select.{gather, range, first, new_at}
use Rattle.patterns.specs.Component.{Component, compare_component}
use Rattle.patterns.specs.Generation.{candidates, is_child}

-- the child at place k of the candidates of c, if there is one that has not stood before
unfoldable pub child_at : Component → ℕ → List Component
unfolding new_at compare_component is_child
child_at c k = new_at compare_component (is_child c) [] (candidates c) k

-- the first child of c at a place from k on
unfoldable pub child_from : Component → ℕ → Option Component
unfolding child_at
child_from c k = first (gather (child_at c) (range k (length (candidates c) - k)))

-- the last child of c at a place before k
unfoldable pub child_before : Component → ℕ → Option Component
unfolding child_at
child_before c k = first (reverse (gather (child_at c) (range 0 k)))
