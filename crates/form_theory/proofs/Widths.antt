-- How many bytes numbers take, one after another.
use mathlib.Core.Path.{◌≡◌, ap, ◌∙◌}
use mathlib.Core.List.{List, [], ◌∷◌, append-nil}
use Prim.Native.Nat.{ℕ, ◌+◌, ◌≤◌, ◌<◌}
use native.Mathlib.Numerals.{add-one}
use native.Mathlib.Omega.{arith}
use lib.ListN.{length, take, get_or, length-append, length-take}
use lib.Seq.{take-suc, take_all}
use Rattle.patterns.specs.Written.{write_number, bytes}
use Rattle.form_theory.proofs.Bounds.{gather-within}
use Rattle.form_theory.proofs.Numbers.{bytes-append, bytes-length}

-- the first i + 1 numbers take as many bytes as the first i and one number more
pub widths-next : (s : List ℕ) (i : ℕ) → i < length s → length (bytes (take (i + 1) s)) ≡ length (bytes (take i s)) + length (write_number (get_or s i 0))
widths-next s i h =
    rw (add-one i, take-suc s i 0 h, bytes-append (take i s) (get_or s i 0 ∷ []), append-nil (write_number (get_or s i 0)))
    (length-append (bytes (take i s)) (write_number (get_or s i 0)))

-- and no more than all
pub widths-within : (s : List ℕ) (i : ℕ) → length (bytes (take i s)) ≤ length (bytes s)
widths-within s i = gather-within write_number i s

-- each number takes at most two bytes
pub widths-fit : (s : List ℕ) (i : ℕ) → length s ≤ 200 → length (bytes (take i s)) ≤ 400
widths-fit s i h = omega (arith, bytes-length (take i s), length-take i s)

pub widths-all : (s : List ℕ) (i sum : ℕ) → length s ≤ i → sum ≡ length (bytes (take i s)) → sum ≡ length (bytes s)
widths-all s i sum h e = e ∙ ap (λ l. length (bytes l)) (take_all i s h)
