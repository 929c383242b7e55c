-- What stands at each place of a line's body, for code that writes by place.
use mathlib.Core.Path.{◌≡◌, refl, ap, ◌∙◌}
use mathlib.Core.List.{List}
use Prim.Native.Nat.{ℕ, zero, suc, ◌+◌, ◌*◌, ◌<◌}
use native.Mathlib.Omega.{arith}
use lib.ListN.{get_or, drop}
use lib.Seq.{drop-drop}
use Rattle.patterns.specs.Digraph6.{sextet, packed}

pub packed-at : (k i : ℕ) (bits : List ℕ) → i < k → get_or (packed k bits) i 0 ≡ 63 + sextet (drop (6 * i) bits)
packed-at zero i bits h = absurd (omega arith)
packed-at (suc k) zero bits h = refl
packed-at (suc k) (suc i) bits h =
    let e : 6 + 6 * i ≡ 6 * suc i = omega arith in
    packed-at k i (drop 6 bits) (omega arith) ∙ ap (λ b. 63 + sextet b) (drop-drop (6 * i) 6 bits ∙ ap (λ m. drop m bits) e)
