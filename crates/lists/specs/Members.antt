-- Membership in a list, and lists without repetition.
use mathlib.Core.List.{List, [], ◌∷◌, Memᴰ}

infix 50 ◌∈◌
-- x stands in l
abbrev pub ◌∈◌ : {A : Type 0} → A → List A → Type 0
x ∈ l = Memᴰ x l

-- no entry stands twice
pub data NoDup {A : Type 0} : List A → Type 0 where
  empty : NoDup []
  one : {x : A} {l : List A} → (x ∈ l → ⊥) → NoDup l → NoDup (x ∷ l)
