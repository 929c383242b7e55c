-- How long a written code is.
use mathlib.Core.Path.{◌≡◌}
use mathlib.Core.Bool.{true}
use Prim.Native.Nat.{◌≤◌}
use native.Mathlib.Omega.{arith}
use lib.ListN.{length}
use Rattle.lists.specs.Select.{each}
use Rattle.patterns.specs.Component.{nonempty}
use Rattle.patterns.specs.System.{System, weight}
use Rattle.patterns.specs.Written.{numbers, written}
use Rattle.form_theory.proofs.Numbers.{bytes-length}
use Rattle.form_theory.proofs.Readback.{components-points, length-components}

-- the written code of a system whose components have trees has at most 804 bytes
pub written-short : (S : System) → each nonempty S ≡ true → weight S ≤ 200 → length (written S) ≤ 804
unfolding written
written-short S c h = omega (arith, bytes-length (numbers S), length-components S, components-points S c)
