use native.Mathlib.Omega.{arith}
use Prim.Native.Nat.{ℕ}
use lib.ListN.{length-append, length-drop, length-take}
use Rattle.combining.proofs.ShiftedNumbers.{sum-placed, shift-asked}
use Rattle.combining.proofs.sum_into.Goals as goal

pub shift_into-requires : goal.shift_into-requires
shift_into-requires c =
    shift-asked _ _ c.args.g.now _ c.requires.second
    (omega (arith, length-append {A = ℕ}, length-drop {A = ℕ}, length-take {A = ℕ}, c.copy_from_slice.ensures.len, c.requires.room))
    (omega (arith, c.requires.room, c.requires.small))

pub returns : goal.returns
returns c = sum-placed c.args.f.now c.args.g.now c.args.out.now c.requires.room c.copy_from_slice.ensures.after c.shift_into.ensures
