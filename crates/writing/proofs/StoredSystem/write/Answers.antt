use native.Mathlib.Omega.{arith}
use Rattle.writing.proofs.Placements.{points-fit, count_fits, components-fit, system-written}
use Rattle.writing.proofs.StoredSystem.write.Goals as goal

pub put_number-front-requires : goal.put_number-front-requires
put_number-front-requires c = points-fit c.requires

pub put_number-next-requires : goal.put_number-next-requires
put_number-next-requires c = let p = c.put_number-front.ensures in count_fits c.requires p (omega (arith, p.end))

pub write_components-requires : goal.write_components-requires
write_components-requires c = let p = c.put_number-front.ensures in components-fit c.requires p (omega (arith, p.end)) c.put_number-next.ensures

pub returns : goal.returns
returns c =
    system-written c.requires c.put_number-front.ensures c.put_number-next.ensures _ _ c.write_components.ensures
