-- The system of a table by value: what its arrays hold, and its code put into the lent output.
use mathlib.Core.Path.{◌≡◌, refl}
use mathlib.Core.Bool.{true}
use mathlib.Core.List.{List}
use Prim.Native.Nat.{ℕ, ◌≤◌}
use native.Mathlib.Omega.{arith}
use lib.ListN.{length}
use Rattle.patterns.specs.System.{System}
use Rattle.patterns.specs.Written.{written}
use Rattle.patterns.specs.Table.{is_table, system_of_table}
use Rattle.patterns.specs.Reading.{done}
use Rattle.patterns.specs.Replies.{Answer}
use Rattle.patterns.specs.Entry.{gives, Replied, checked_table, code_of_map}
use Rattle.memory.specs.Memory.{Holds, HeldSystem}
use Rattle.map_theory.proofs.Theorems.{table-canonical, table-weight}
use Rattle.writing.proofs.CanonicalHeld.{canonical-held}
use Rattle.coding.specs.declared.labelled.LabelledSystem.{LabelledSystem}
use Rattle.coding.specs.Systems.{CodedAs, sizes_of, trees_of}
use Rattle.coding.proofs.CodedSizes.{sizes-front}

module _ {f : List ℕ} (s : LabelledSystem) (p : CodedAs f s) where
  coded-holds : Holds (system_of_table f) (sizes_of s) (trees_of s)
  coded-holds = record { points_are = sizes-front s p; flat_is = p.written.trees_are }

  pub coded-held : is_table f ≡ true → length f ≤ 200 → HeldSystem (sizes_of s) (trees_of s)
  coded-held t small =
      canonical-held coded-holds (table-canonical (length f) f refl t) (omega (arith, table-weight (length f) f refl t))

  -- its code was put
  pub coded-put : {before after : List ℕ} {a : Answer}
      → ((S : System) → Holds S (sizes_of s) (trees_of s) → Replied (gives (written S)) before a after)
      → Replied (gives (written (system_of_table f))) before a after
  coded-put h = h (system_of_table f) coded-holds

-- the code of a map, or the refusal of its table
module _ (f : List ℕ) where
  pub map-coded : checked_table f ≡ done f → {before after : List ℕ} {a : Answer}
      → Replied (gives (written (system_of_table f))) before a after → Replied (code_of_map f) before a after
  unfolding code_of_map
  map-coded e p = rw e p
