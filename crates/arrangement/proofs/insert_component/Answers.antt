use native.Mathlib.Omega.{arith}
use lib.ListN.{length-set}
use Rattle.arrangement.proofs.ComponentInserting.{place-within, place_of, component-inserted}
use Rattle.arrangement.proofs.insert_component.Goals as goal

-- the place is before the component
pub exchange-requires : goal.exchange-requires
exchange-requires c =
    let asked = c.requires in
    ((place-within asked c.component_place-place.ensures).0, omega arith, simp length-set (omega (arith, asked.count)))

pub exchange-requires-2 : goal.exchange-requires-2
exchange-requires-2 c =
    let asked = c.requires in
    ((place-within asked c.component_place-place.ensures).1, asked.after, asked.fits)

pub exchange-requires-3 : goal.exchange-requires-3
exchange-requires-3 c =
    let asked = c.requires in
    ((place-within asked c.component_place-place.ensures).1, asked.after, omega (arith, asked.fits, asked.same))

pub returns : goal.returns
returns c =
    let asked = c.requires in
    let a = c.args in
    let r = c.component_place-place in
    record {
      inserts = λ pic x d e h k b q g s.
          rw (c.exchange.ensures, c.exchange-2.ensures, c.exchange-3.ensures)
          (component-inserted pic x g s a.m a.sizes.now r.result h k b q (place_of asked r.ensures pic x q g s));
    }
