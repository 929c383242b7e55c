-- What follows from the promise of "accept" where a code is read at each keystroke [document 02, paper 4].
use mathlib.Core.Path.{◌≡◌, refl, ap, ◌∙◌}
use mathlib.Core.List.{List, [], ◌∷◌, ◌++◌}
use Prim.Native.Nat.{ℕ}
use Rattle.lists.proofs.Tests.{clash}
use Rattle.patterns.specs.System.{System, weight}
use Rattle.patterns.specs.Reading.{Result, done, fault, and_then, read_system, accepted}
use Rattle.patterns.specs.OnePass.{scan_step, scan, scan_end}
use Rattle.patterns.specs.Replies.{length_is, refused, number_of}
use Rattle.patterns.specs.Entry.{answer, accept_of}
use Rattle.form_theory.proofs.OnePass.{scan-after, accepted-in-one-pass}
use Rattle.form_theory.proofs.NumberForms.{form-stays}

-- The reply follows from what one pass over the bytes has found ..
pub accept-in-one-pass : (b : List ℕ) → accept_of b ≡ answer (and_then (scan_end (scan b)) read_system) (λ S. length_is (weight S))
unfolding accept_of
accept-in-one-pass b = ap (λ o. answer o (λ S. length_is (weight S))) (accepted-in-one-pass b)

-- .. and with one byte more from that byte and what was found before it.
pub accept-after : (b : List ℕ) (x : ℕ) → accept_of (b ++ (x ∷ [])) ≡ answer (and_then (scan_end (scan_step x (scan b))) read_system) (λ S. length_is (weight S))
accept-after b x =
    accept-in-one-pass (b ++ (x ∷ [])) ∙ ap (λ s. answer (and_then (scan_end s) read_system) (λ S. length_is (weight S))) (scan-after b x)

-- Where the reply is 4 it stays 4, whatever is typed behind.
pub four-stays : (b l : List ℕ) → accept_of b ≡ refused 4 → accept_of (b ++ l) ≡ refused 4
unfolding accept_of
four-stays b l e = of (accepted b) refl e
  where
    of : (o : Result System) → accepted b ≡ o → answer o (λ S. length_is (weight S)) ≡ refused 4 → answer (accepted (b ++ l)) (λ S. length_is (weight S)) ≡ refused 4
    of (done S) p q = clash cc
    of (fault c) p q = let four : number_of c ≡ 4 = cc in ap (λ o. answer o (λ S. length_is (weight S))) (form-stays c four b l p) ∙ q
