-- The two converters undo each other, and each keeps the system.
use mathlib.Core.Path.{◌≡◌, ap, sym, ◌∙◌}
use mathlib.Core.Bool.{true}
use mathlib.Core.List.{List}
use Prim.Native.Nat.{ℕ}
use Rattle.patterns.specs.System.{System}
use Rattle.patterns.specs.Written.{written}
use Rattle.patterns.specs.Reading.{done, accepted}
use Rattle.patterns.specs.Entry.{gives}
use Rattle.patterns.proofs.Outcomes.{outcome-gives}
use Rattle.form_theory.proofs.Bounds.{all_below}
use Rattle.form_theory.proofs.WrittenBack.{written_back, accepted-is, accepted-canonical}
use Rattle.group_theory.specs.GroupedForm.{grouped_code, grouped_accepted, grouped_of, expanded_of}
use Rattle.group_theory.proofs.GroupedBack.{grouped-back, grouped-is, grouped-canonical}

-- a system of which one form is read is read from the other form, as it is written
pub grouped-keeps : (b d : List ℕ) → grouped_of b ≡ gives d → (S : System) × (accepted b ≡ done S) × (grouped_accepted d ≡ done S)
unfolding grouped_of
grouped-keeps b d e =
    let r = outcome-gives (accepted b) grouped_code e in
    let s = accepted-canonical b r.0 r.1 in
    (r.0, r.1, ap grouped_accepted (sym r.2) ∙ grouped-back r.0 s.0 s.1)

pub expanded_keeps : (d b : List ℕ) → expanded_of d ≡ gives b → (S : System) × (grouped_accepted d ≡ done S) × (accepted b ≡ done S)
unfolding expanded_of
expanded_keeps d b e =
    let r = outcome-gives (grouped_accepted d) written e in
    let s = grouped-canonical d r.0 r.1 in
    (r.0, r.1, ap accepted (sym r.2) ∙ written_back r.0 s.0 s.1)

-- bytes that a converter takes are given back by the other
pub grouped-expanded : (b d : List ℕ) → all_below 256 b ≡ true → grouped_of b ≡ gives d → expanded_of d ≡ gives b
unfolding expanded_of
grouped-expanded b d h e =
    let r = grouped-keeps b d e in
    rw r.2 (ap gives (sym (accepted-is b r.0 h r.1).0))

pub expanded-grouped : (d b : List ℕ) → all_below 256 d ≡ true → expanded_of d ≡ gives b → grouped_of b ≡ gives d
unfolding grouped_of
expanded-grouped d b h e =
    let r = expanded_keeps d b e in
    rw r.2 (ap gives (sym (grouped-is d r.0 h r.1).0))
