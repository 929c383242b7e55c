use mathlib.Core.Path.{ap}
use mathlib.Core.List.{List}
use Prim.Native.Nat.{ℕ, ◌+◌, ◌-◌, ◌≤◌}
use native.Mathlib.Omega.{arith}
use lib.ListN.{length, take, drop}
use Rattle.patterns.proofs.Trees.{length-flat}
use Rattle.memory.proofs.Standing.{stands-part, part_length}
use Rattle.arrangement.specs.Arrangement.{SiblingsStand}
use Rattle.arrangement.proofs.Inserting.{planted-siblings, planted-inserted}
use Rattle.arrangement.proofs.insert_tree.Goals as goal

-- the place of the tree is before it
within : {trees labelled : List ℕ} {start end next r : ℕ} → SiblingsStand trees labelled start end next → r ≤ length (take (end - start) (drop start trees))
    → start + r ≤ end
within {trees} {start = start} {end = end} h k = omega (arith, k, part_length trees start end (omega (arith, h.after, h.fits)), h.ends)

pub points_before-requires : goal.points_before-requires
points_before-requires c =
    let h = c.requires in
    record { trees = h.siblings; is = stands-part c.args.end (omega (arith, length-flat h.siblings, h.ends)) h.stands }

pub returns : goal.returns
returns c =
    record {
      inserts = λ us v d e h k m s.
          let q = planted-siblings us v h m s in
          rw (c.exchange.ensures, c.exchange-2.ensures)
          (planted-inserted us v h k (ap (λ n. c.args.start + n) (c.points_before.ensures.1 _ _ q.1 q.0)) m s);
    }
