-- A byte goes to the front of a block, and the block moves up by one.
use mathlib.Core.Path.{◌≡◌, ap, sym, ◌∙◌}
use mathlib.Core.List.{List, [], ◌∷◌, ◌++◌, append_assoc}
use Prim.Native.Nat.{ℕ, suc, ◌+◌, ◌-◌, ◌≤◌, ◌<◌}
use native.Mathlib.Omega.{arith}
use native.Mathlib.Numerals.{add-one}
use lib.ListN.{length, get_or, take, drop, set}
use lib.Seq.{paste, slice, slice_empty, slice-cons, take-suc, append_snoc, set_at, length-take-le}
use Rattle.lists.specs.Blocks.{exchanged}
use Rattle.lists.proofs.Places.{drop-take}

-- the block a..b moved up by one, and the byte at b put at a
pub shifted-exchanged : (s : List ℕ) (a b : ℕ) → a ≤ b → b < length s → set (paste s (a + 1) (drop a s) (b - a)) a (get_or s b 0) ≡ exchanged a b (suc b) s
shifted-exchanged s a b h k =
    let rest : List ℕ = slice a b s ++ drop (suc b) s in
    let front : take (a + 1) s ≡ take a s ++ (get_or s a 0 ∷ []) = ap (λ n. take n s) (add-one a) ∙ take-suc s a 0 (omega arith) in
    let same : a + 1 + (b - a) ≡ suc b = omega arith in
    let behind : drop (a + 1 + (b - a)) s ≡ drop (suc b) s = ap (λ n. drop n s) same in
    let last : slice b (suc b) s ≡ get_or s b 0 ∷ [] = slice-cons b (suc b) s 0 (omega arith) (omega arith) ∙ ap (λ l. get_or s b 0 ∷ l) (slice_empty (suc b) s) in
    rw (front, sym (drop-take a b s), behind, last)
    (ap (λ l. set l a (get_or s b 0))
    (append_assoc (take a s ++ (get_or s a 0 ∷ [])) (slice a b s) (drop (suc b) s) ∙ append_snoc (take a s) (get_or s a 0) rest)
    ∙ set_at (take a s) (get_or s a 0) rest (get_or s b 0) a (length-take-le a s (omega arith)))
