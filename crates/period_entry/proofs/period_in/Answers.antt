use mathlib.Core.Path.{◌≡◌, ap, ◌∙◌}
use lib.ListN.{length}
use borrow.Author.Rules.{rules}
use Rattle.period_theory.specs.Multiples.{lcm_from}
use Rattle.census.proofs.CensusRows.{rows-occurring}
use Rattle.period_entry.proofs.SmallTables.{lengths-asked, lengths-period}
use Rattle.period_entry.proofs.period_in.Goals as goal

pub lengths-requires : goal.lengths-requires
lengths-requires c = c.cycle_rows-rows.ensures.few

pub lcm_of_all-requires : goal.lcm_of_all-requires
lcm_of_all-requires c =
    let rows = c.cycle_rows-rows.result in
    let l : length rows.lengths ≡ 19 = search rules in
    let k : length rows.counts ≡ 19 = search rules in
    rw (c.lengths.ensures ∙ rows-occurring rows l k c.cycle_rows-rows.ensures) (lengths-asked c.args.table.images.now c.args.table.table c.requires)

pub returns : goal.returns
returns c =
    let rows = c.cycle_rows-rows.result in
    let l : length rows.lengths ≡ 19 = search rules in
    let k : length rows.counts ≡ 19 = search rules in
    c.lcm_of_all.ensures
    ∙ ap (lcm_from 1) (c.lengths.ensures ∙ rows-occurring rows l k c.cycle_rows-rows.ensures)
    ∙ lengths-period c.args.table.images.now c.args.table.table c.requires
