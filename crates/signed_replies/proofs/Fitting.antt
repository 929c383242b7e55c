-- Every number of a refusal fits a signed number of 64 bits: the number of a cause is below 100.
use mathlib.Core.Path.{◌≡◌, ◌∙◌, ap}
use Prim.Native.Nat.{ℕ, zero, suc, ◌<◌}
use native.Mathlib.Omega.{arith}
use lib.IntN.{ℤ, pos, neg_ℤ}
use mir.Syntax.{w64}
use mir.Val.{SFits, to_z, of_z}
use mir.ValLaws.{to_z-of_z}
use Rattle.patterns.specs.declared.Refusal.{Refusal}
use Rattle.patterns.specs.Replies.{Answer, refused, number_of}
use Rattle.patterns.proofs.Causes.{cause-number}
use Rattle.patterns.specs.SignedReplies.{signed_of}

abbrev pub Fits : Answer → Type 0
Fits a = SFits w64 (signed_of a)

-- a number that fits is read back from its bits
pub read_back : {z y : ℤ} → z ≡ y → SFits w64 y → to_z w64 (of_z w64 z) ≡ y
read_back {z} {y} e h = ap (λ x. to_z w64 (of_z w64 x)) e ∙ to_z-of_z w64 y h

cause-fits : (c : ℕ) → c < 100 → SFits w64 (neg_ℤ (pos c))
cause-fits zero h = record { sfits = omega arith }
cause-fits (suc c) h = record { sfits = omega arith }

pub refused-fits : (c : Refusal) → Fits (refused (number_of c))
refused-fits c = cause-fits (number_of c) (cause-number c).1
