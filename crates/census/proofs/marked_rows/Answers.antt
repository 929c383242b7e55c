use mathlib.Core.Path.{refl}
use Prim.Native.Nat.{◌+◌}
use native.Mathlib.Omega.{arith}
use lib.ListN.{length}
use Rattle.census.proofs.Points.{zeros-taken}
use Rattle.census.proofs.marked_rows.Goals as goal

pub rows_of-requires : goal.rows_of-requires
rows_of-requires c =
    let t = c.args.table in
    record {
      marked = c.requires;
      zeros = zeros-taken 201 (length t.images.now + 1) refl (omega (arith, t.small));
    }
