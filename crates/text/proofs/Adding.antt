-- Texts put one after another are put as one.
use mathlib.Core.Path.{ap, ◌∙◌}
use mathlib.Core.List.{List, ◌++◌, append_assoc}
use Prim.Native.Nat.{ℕ, ◌≤◌}
use native.Mathlib.Omega.{arith}
use lib.ListN.{length, take, length-append, length-take}
use Rattle.text.specs.Added.{Added}

module _ {at m r : ℕ} {d e f : List ℕ} where
  pub added_then : {a b : List ℕ} → Added a at d m e → Added b m e r f → Added (a ++ b) at d r f
  added_then {a} {b} p q = record {
    end = omega (arith, p.end, q.end, length-append a b);
    text = q.text ∙ ap (λ l. l ++ b) p.text ∙ append_assoc (take at d) a b;
  }

-- what was put lies within the buffer
pub added-within : {l : List ℕ} {at r : ℕ} {before after : List ℕ} → at ≤ length before → Added l at before r after → r ≤ length after
added-within {l} {at} {r} {before} {after} h p =
    omega (arith, p.end, simp (length-append, length-take) at (ap length p.text))
