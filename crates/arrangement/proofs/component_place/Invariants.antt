use mathlib.Core.Path.{◌≡◌}
use mathlib.Core.List.{map}
use Rattle.lists.specs.Select.{gather}
use Rattle.patterns.specs.Component.{Component, points, flat}
use Rattle.patterns.specs.System.{System}
use Rattle.arrangement.proofs.ComponentPlaces.{Searching}
use Rattle.arrangement.proofs.component_place.Given as goal

abbrev pub invariant-loop-index : goal.invariant-loop-index
invariant-loop-index l = (x : Component) (S : System) → l.c ≡ flat x → l.sizes ≡ map points S → l.trees ≡ gather flat S → Searching x S l.index l.at
