-- The map of a system in memory.
use mathlib.Core.Path.{◌≡◌, ap, sym, ◌∙◌}
use mathlib.Core.List.{List, ◌++◌}
use Prim.Native.Nat.{ℕ, ◌≤◌}
use native.Mathlib.Omega.{arith}
use lib.ListN.{length, take, length-append}
use lib.Seq.{length-take-le}
use Rattle.patterns.specs.System.{System}
use Rattle.patterns.specs.MapOf.{map_of}
use Rattle.memory.specs.Memory.{Holds, HeldSystem}
use Rattle.memory.proofs.Parts.{held-points}
use Rattle.mapping.specs.Images.{MapAsked}
use Rattle.map_theory.proofs.MapOf.{length-map_of}

module _ {sizes trees : List ℕ} (h : HeldSystem sizes trees) where
  pub table-small : length trees ≤ 200
  table-small = omega (arith, held-points h.holds, h.small)

  pub map-asked : (room : List ℕ) → length room ≡ 200 → MapAsked sizes trees (take (length trees) room)
  map-asked room e = let small = table-small in record { held = h; room = length-take-le (length trees) room (omega arith) }

  module _ {table : List ℕ} (w : (S : System) → Holds S sizes trees → table ≡ map_of S) (rest : List ℕ) where
    table-length : length table ≡ length trees
    table-length =
        ap length (w h.system h.holds) ∙ length-map_of h.system ∙ sym (held-points h.holds)

    pub table-within : length trees ≤ length (table ++ rest)
    table-within = omega (arith, length-append table rest, table-length)
