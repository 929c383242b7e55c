use Prim.Native.Nat.{◌+◌, ◌-◌}
use mathlib.Core.Path.{◌≡◌}
use native.Mathlib.Omega.{arith}
use lib.ListN.{length-set}
use Rattle.lower_sizes.proofs.Lowering.{none-empty, half_room, half-written, last-whole}
use Rattle.lower_sizes.proofs.sizes.previous_sizes.Goals as goal

pub returns-then-m-eq0 : goal.returns-then-m-eq0
returns-then-m-eq0 c = none-empty c.args.sizes.now c.args.m c.if-m-eq0.true

pub bounds-sizes-m-then-left-last-2 : goal.bounds-sizes-m-then-left-last-2
bounds-sizes-m-then-left-last-2 c =
    simp length-set (half_room c.requires (c.args.m - 1) (omega arith) (omega (arith, c.left_of-left.ensures.0)))

pub returns-then-left-last : goal.returns-then-left-last
returns-then-left-last c =
    half-written c.requires (c.args.m - 1) (omega arith) (omega (arith, c.left_of-left.ensures.0)) _ _ _
    (omega arith) (omega arith) (omega arith)

pub lower-requires : goal.lower-requires
lower-requires c = last-whole c.requires (c.args.m - 1) (omega arith) (omega (arith, c.left_of-left.ensures.0))

pub returns : goal.returns
returns c =
    let same : c.args.m - 1 + 1 ≡ c.args.m = omega arith in
    rw same at c.lower.ensures
