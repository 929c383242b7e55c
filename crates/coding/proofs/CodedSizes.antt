-- The sizes of a system of a table, by value.
use mathlib.Core.Path.{◌≡◌, sym, ◌∙◌}
use mathlib.Core.List.{List, map}
use Prim.Native.Nat.{ℕ, ◌≤◌}
use native.Mathlib.Omega.{arith}
use lib.ListN.{length, length-take}
use lib.Seq.{take-take}
use Rattle.patterns.specs.Component.{points}
use Rattle.patterns.specs.Table.{system_of_table}
use Rattle.coding.specs.declared.labelled.LabelledSystem.{LabelledSystem}
use Rattle.coding.specs.Systems.{CodedAs, sizes_of}

module _ {f : List ℕ} (s : LabelledSystem) (p : CodedAs f s) where
  components-points : s.components ≤ length f
  components-points = let w = p.written.within in omega (arith, length-take (length f) s.sizes)

  pub sizes-front : sizes_of s ≡ map points (system_of_table f)
  sizes-front = sym (take-take s.components (length f) s.sizes components-points) ∙ p.written.sizes_are
