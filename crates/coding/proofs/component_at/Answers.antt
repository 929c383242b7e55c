use mathlib.Core.List.{map}
use native.Mathlib.Omega.{arith}
use Rattle.map_theory.specs.Plants.{shape, plants_along}
use Rattle.coding.proofs.TurnedLeast.{written-bound, written-part, turn-bound, turn-trees, turn-labels, component-written}
use Rattle.coding.proofs.component_at.Goals as goal

pub least_start-requires : goal.least_start-requires
least_start-requires c = record { trees = map shape (plants_along c.args.f.now c.args.x); is = written-part c.requires c.trees_along-end.ensures }

pub overflow_add-p : goal.overflow_add-p
overflow_add-p c =
    let asked = c.requires in
    let p = c.trees_along-end.ensures in
    let least = c.least_start.ensures _ (written-part asked p) in
    omega (arith, turn-bound asked p least, written-bound asked p, asked.prepared.small)

pub exchange-requires : goal.exchange-requires
exchange-requires c =
    let asked = c.requires in
    let p = c.trees_along-end.ensures in
    turn-trees asked p (c.least_start.ensures _ (written-part asked p))

pub exchange-requires-2 : goal.exchange-requires-2
exchange-requires-2 c =
    let asked = c.requires in
    let p = c.trees_along-end.ensures in
    turn-labels asked p (c.least_start.ensures _ (written-part asked p))

pub returns : goal.returns
returns c =
    let asked = c.requires in
    let p = c.trees_along-end.ensures in
    rw (c.exchange.ensures, c.exchange-2.ensures) (component-written asked p (c.least_start.ensures _ (written-part asked p)))
