-- A canonical system in memory is one that the writer can write.
use mathlib.Core.Path.{◌≡◌}
use mathlib.Core.Bool.{true}
use mathlib.Core.List.{List}
use Prim.Native.Nat.{ℕ, ◌≤◌}
use Rattle.patterns.specs.System.{System, weight, canonical}
use Rattle.memory.specs.Memory.{Holds, HeldSystem}
use Rattle.form_theory.proofs.Readback.{canonical-nonempty}

abbrev pub canonical-held : {S : System} {sizes trees : List ℕ} → Holds S sizes trees → canonical S ≡ true → weight S ≤ 200 → HeldSystem sizes trees
canonical-held {S} h c w = record { system = S; holds = h; each_nonempty = canonical-nonempty S c; small = w }
