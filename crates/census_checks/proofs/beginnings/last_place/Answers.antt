use Rattle.std.proofs.Common.{◌≡◌, ◌+◌, ◌-◌, ◌*◌, ◌/◌, ◌%◌, ◌<◌, arith}
use Rattle.std.proofs.Math.Nat.{mod-add-div', mod-lt}
use Rattle.std.proofs.lemmas.Nat.{mod-mul-add}
use mathlib.Core.Path.{ap, ◌∙◌}
use Rattle.census_checks.proofs.beginnings.last_place.Goals as goal

-- the place is i and a multiple of the period
pub returns-clause-last : goal.returns-clause-last
returns-clause-last c =
    let after = c.in_ok-after.after in
    let period = c.args.period in
    let less : after % period < period = mod-lt after (omega (arith, c.requires)) in
    let cut = mod-add-div' after period in
    let ends = c.in_ok-after.ensures in
    let here : c.in_ok-last.last - after % period ≡ after / period * period + c.args.i = omega (arith, cut, ends.0, ends.1) in
    (omega arith, omega (arith, less, ends.0, ends.1), ap (λ x. x % period) here ∙ mod-mul-add (after / period) period c.args.i c.requires)
