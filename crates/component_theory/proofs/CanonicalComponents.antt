-- The components of a canonical system are valid.
use mathlib.Core.Path.{◌≡◌, refl}
use mathlib.Core.Bool.{true, ◌&&◌}
use mathlib.Core.List.{[], ◌∷◌}
use Rattle.lists.specs.Order.{at_most}
use Rattle.lists.specs.Select.{each}
use Rattle.lists.proofs.Tests.{and-true, each-cons}
use Rattle.patterns.specs.Component.{Component, valid_component}
use Rattle.patterns.specs.System.{System, compare_generated, is_in_order, canonical}

is_in_order-valid : (p : Component) (S : System) → is_in_order p S ≡ true → each valid_component S ≡ true
unfolding is_in_order
is_in_order-valid p [] e = refl
is_in_order-valid p (c ∷ S) e =
    let r = and-true (valid_component c && at_most compare_generated p c) (is_in_order c S) e in
    let s = and-true (valid_component c) (at_most compare_generated p c) r.0 in
    each-cons valid_component {x = c} S s.0 (is_in_order-valid c S r.1)

pub canonical-valid : (S : System) → canonical S ≡ true → each valid_component S ≡ true
unfolding canonical
canonical-valid S e = is_in_order-valid [] S e
