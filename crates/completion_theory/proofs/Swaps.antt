-- Two entries of a list exchanged: the same entries, in another order.
use mathlib.Core.Path.{◌≡◌, ap, ◌∙◌}
use mathlib.Core.List.{List, [], ◌∷◌}
use Prim.Native.Nat.{ℕ, zero, suc, ◌+◌, ◌≤◌, ◌<◌}
use native.Mathlib.Omega.{arith}
use lib.Dec.{eqb}
use borrow.Author.Tests.{eqb-true, eqb-false}
use lib.ListN.{length, get_or, set, length-set}
use lib.Seq.{get_or-set_same, get_or-set_other}
use Rattle.lists.specs.Select.{total}
use Rattle.lists.proofs.Tests.{by-test}
use Rattle.lists.proofs.Permute.{Perm}
use Rattle.completion_theory.specs.Arrangement.{swap}

-- one entry replaced
total-set : (g : ℕ → ℕ) (l : List ℕ) (i a : ℕ) → i < length l → total g (set l i a) + g (get_or l i 0) ≡ total g l + g a
total-set g [] i a h = absurd (omega arith)
total-set g (x ∷ l) zero a h = omega arith
total-set g (x ∷ l) (suc i) a h = omega (arith, total-set g l i a (omega arith))

-- an entry copied to place i stands where it stood, too
copied-stays : (r : List ℕ) (i j : ℕ) → i < length r → get_or (set r i (get_or r j 0)) j 0 ≡ get_or r j 0
copied-stays r i j h =
    by-test (eqb j i)
    (λ t. let e = eqb-true j i t in rw e (get_or-set_same r i (get_or r i 0) 0 h))
    (λ t. get_or-set_other r i j (get_or r j 0) 0 (eqb-false j i t))

module _ (i j : ℕ) (r : List ℕ) where
  pub length-swap : length (swap i j r) ≡ length r
  length-swap = length-set (set r i (get_or r j 0)) j (get_or r i 0) ∙ length-set r i (get_or r j 0)

  pub swap-perm : i < length r → j < length r → Perm (swap i j r) r
  swap-perm h k =
      let s = set r i (get_or r j 0) in
      let inside : j < length s = omega (arith, length-set r i (get_or r j 0)) in
      record {
        totals = λ g. omega (arith, total-set g r i (get_or r j 0) h, total-set g s j (get_or r i 0) inside, ap g (copied-stays r i j h));
      }

  -- the entry of j stands at i
  pub swap_at : i < length r → get_or (swap i j r) i 0 ≡ get_or r j 0
  swap_at h =
      let s = set r i (get_or r j 0) in
      by-test (eqb i j)
      (λ t. rw (eqb-true i j t) (get_or-set_same (set r j (get_or r j 0)) j (get_or r j 0) 0 (omega (arith, eqb-true i j t, length-set r j (get_or r j 0)))))
      (λ t. get_or-set_other s j i (get_or r i 0) 0 (eqb-false i j t) ∙ get_or-set_same r i (get_or r j 0) 0 h)

  -- what stands before both stays
  pub swap-before : i ≤ j → (x : ℕ) → x < i → get_or (swap i j r) x 0 ≡ get_or r x 0
  swap-before h x k =
      get_or-set_other (set r i (get_or r j 0)) j x (get_or r i 0) 0 (λ e. omega arith) ∙ get_or-set_other r i x (get_or r j 0) 0 (λ e. omega arith)
