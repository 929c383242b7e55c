use Rattle.writing.proofs.Placements.{number_fits, component-written}
use Rattle.writing.proofs.write_component.Goals as goal

pub put_number-next-requires : goal.put_number-next-requires
put_number-next-requires c = number_fits c.requires c.count-k.ensures

pub returns : goal.returns
returns c =
    component-written c.requires c.count-k.ensures c.put_number-next.ensures _ _ c.write_numbers.ensures
