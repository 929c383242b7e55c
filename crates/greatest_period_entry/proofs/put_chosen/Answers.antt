use mathlib.Core.Path.{◌∙◌}
use native.Mathlib.Omega.{arith}
use lib.Seq.{length-take-le}
use Rattle.greatest_period_entry.proofs.Chosen.{lengths-rest, chosen-asked, chosen-multiples, chosen-replied}
use Rattle.greatest_period_entry.proofs.put_chosen.Goals as goal

pub write_cycles-length-requires : goal.write_cycles-length-requires
write_cycles-length-requires c =
    -- from the place that was answered on stand the chosen lengths
    let e = lengths-rest c.put_lengths-from.ensures (c.put_lengths-from.auto.sizes ∙ c.points_room-sizes.ensures) in
    chosen-asked c.args.n c.requires.0 e (length-take-le _ _ (omega (arith, c.points_room-trees.ensures))) c.requires.1

pub lcm_of_all-period-requires : goal.lcm_of_all-period-requires
lcm_of_all-period-requires c =
    let e = lengths-rest c.put_lengths-from.ensures (c.put_lengths-from.auto.sizes ∙ c.points_room-sizes.ensures) in
    chosen-multiples c.args.n c.requires.0 e

pub returns : goal.returns
returns c =
    let e = lengths-rest c.put_lengths-from.ensures (c.put_lengths-from.auto.sizes ∙ c.points_room-sizes.ensures) in
    chosen-replied c.args.n c.requires.0 e c.requires.1 c.write_cycles-length.ensures c.lcm_of_all-period.ensures
