-- The first places of an array of zeros.
use mathlib.Core.Path.{◌≡◌, ap, sym, ◌∙◌}
use mathlib.Core.List.{List}
use Prim.Native.Nat.{ℕ, ◌+◌, ◌-◌, ◌≤◌}
use native.Mathlib.Omega.{arith}
use lib.ListN.{take, replicate, length-replicate, replicate-append-replicate}
use lib.Seq.{take_at}

-- the first places of an array of zeros
pub zeros-taken : {z : List ℕ} (n k : ℕ) → z ≡ replicate n 0 → k ≤ n → take k z ≡ replicate k 0
zeros-taken n k e h =
    let whole : k + (n - k) ≡ n = omega arith in
    ap (take k) (e ∙ sym (replicate-append-replicate k (n - k) 0 ∙ ap (λ i. replicate i 0) whole))
    ∙ take_at (replicate k 0) (replicate (n - k) 0) k (length-replicate k 0)
