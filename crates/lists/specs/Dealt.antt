-- Every w-th entry of a list [document 02, paper 14: dealing the list to groups]. No promise cites these definitions yet.
use Rattle.std.specs.Prelude.{List, [], ◌∷◌, ℕ, zero, suc, ◌-◌}
use Rattle.std.proofs.Math.Option.{Option, none, some}

-- the entry at position i, counted from 0
abbrev pub entry_at : {A : Type 0} → ℕ → List A → Option A
entry_at i [] = none
entry_at zero (x ∷ l) = some x
entry_at (suc i) (x ∷ l) = entry_at i l

-- "group g, counted from 0, gets the entries at positions g, g + w, g + 2w and on"
abbrev pub dealt : {A : Type 0} → ℕ → ℕ → List A → List A
dealt w g [] = []
dealt w zero (x ∷ l) = x ∷ dealt w (w - 1) l
dealt w (suc g) (x ∷ l) = dealt w g l
