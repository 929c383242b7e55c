-- Every w-th entry of a list: each entry of the list goes to one group, and the groups are as equal as can be.
use mathlib.Core.Path.{◌≡◌, refl, ap, sym}
use mathlib.Core.List.{List, [], ◌∷◌, ◌++◌, head-eq_of_cons-eq, tail-eq_of_cons-eq}
use Prim.Native.Nat.{ℕ, zero, suc, ◌+◌, ◌-◌, ◌*◌, ◌≤◌, ◌<◌}
use native.Mathlib.Nat.{suc-mul}
use native.Mathlib.Omega.{arith}
use lib.Dec.{ltb}
use lib.ListN.{length}
use borrow.Author.Tests.{ltb-true, ltb-false}
use Rattle.lists.specs.Select.{first}
use Rattle.lists.proofs.Tests.{◌∈◌, by-test, either}
use Rattle.lists.proofs.Members.{NoDup, empty, one, in_head, in_tail, in-cons-cases, in_moved, not-in-nil}
use Rattle.lists.specs.Dealt.{entry_at, dealt}

module _ {A : Type 0} (w : ℕ) where
  -- a group starts with the entry at its position,
  pub first-dealt : (l : List A) (g : ℕ) → first (dealt w g l) ≡ entry_at g l
  first-dealt [] g = refl
  first-dealt (x ∷ l) zero = refl
  first-dealt (x ∷ l) (suc g) = first-dealt l g

  -- and goes on w positions later: what it gets after an entry is dealt from what stands behind that in the list
  pub dealt-cut : (l : List A) (g : ℕ) {x : A} {r : List A} → dealt w g l ≡ x ∷ r → (a b : List A) × (l ≡ a ++ (x ∷ b)) × (r ≡ dealt w (w - 1) b)
  dealt-cut [] g {x} {r} e = absurd (omega (arith, ap length e))
  dealt-cut (y ∷ l) zero e = ([], l, ap (◌∷ l) (head-eq_of_cons-eq e), sym (tail-eq_of_cons-eq e))
  dealt-cut (y ∷ l) (suc g) e = let r = dealt-cut l g e in (y ∷ r.0, r.1, ap (y ∷◌) r.2, r.3)

  -- so its k-th entry stands at position g + k * w
  pub dealt-at : 1 ≤ w → (l : List A) (g k : ℕ) → entry_at k (dealt w g l) ≡ entry_at (g + k * w) l
  dealt-at h [] g k = refl
  dealt-at h (x ∷ l) zero zero = let e : 0 + 0 * w ≡ 0 = omega arith in rw e
  dealt-at h (x ∷ l) zero (suc k) = let e : 0 + suc k * w ≡ suc (w - 1 + k * w) = omega (arith, suc-mul k w) in rw e (dealt-at h l (w - 1) k)
  dealt-at h (x ∷ l) (suc g) k = let e : suc g + k * w ≡ suc (g + k * w) = omega arith in rw e (dealt-at h l g k)

  -- a group has only entries of the list, each as often as the list has it
  pub of-dealt : (l : List A) (g : ℕ) {x : A} → x ∈ dealt w g l → x ∈ l
  of-dealt [] g m = m
  of-dealt (y ∷ l) zero m = either (in-cons-cases m) (λ q. in_moved (sym q) in_head) (λ i. in_tail (of-dealt l (w - 1) i))
  of-dealt (y ∷ l) (suc g) m = in_tail (of-dealt l g m)

  pub dealt-nodup : (l : List A) (g : ℕ) → NoDup l → NoDup (dealt w g l)
  dealt-nodup [] g d = empty
  dealt-nodup (y ∷ l) zero (one n d) = one (λ m. n (of-dealt l (w - 1) m)) (dealt-nodup l (w - 1) d)
  dealt-nodup (y ∷ l) (suc g) (one n d) = dealt-nodup l g d

  -- each entry reaches a group,
  pub in-dealt : 1 ≤ w → (l : List A) {x : A} → x ∈ l → (g : ℕ) × (g < w) × (x ∈ dealt w g l)
  in-dealt h [] m = not-in-nil m
  in-dealt h (y ∷ l) {x} m =
      either (in-cons-cases m)
      (λ q. (0, omega arith, in_moved (sym q) in_head))
      (λ i.
      let r = in-dealt h l i in
      by-test (ltb (suc r.0) w)
      (λ t. (suc r.0, ltb-true (suc r.0) w t, r.2))
      (λ t.
      let last : r.0 ≡ w - 1 = omega (arith, ltb-false (suc r.0) w t, r.1) in
      (0, omega arith, in_tail (rw last at r.2))))

  -- and where no entry stands twice only one
  pub dealt-one : (l : List A) (g h : ℕ) {x : A} → NoDup l → g < w → h < w → x ∈ dealt w g l → x ∈ dealt w h l → g ≡ h
  dealt-one [] g h d i j m n = not-in-nil m
  dealt-one (y ∷ l) zero zero d i j m n = refl
  dealt-one (y ∷ l) zero (suc h) (one k d) i j m n =
      either (in-cons-cases m)
      (λ q. absurd (k (in_moved q (of-dealt l h n))))
      (λ p. absurd (omega (arith, dealt-one l (w - 1) h d (omega arith) (omega arith) p n)))
  dealt-one (y ∷ l) (suc g) zero (one k d) i j m n =
      either (in-cons-cases n)
      (λ q. absurd (k (in_moved q (of-dealt l g m))))
      (λ p. absurd (omega (arith, dealt-one l (w - 1) g d (omega arith) (omega arith) p m)))
  dealt-one (y ∷ l) (suc g) (suc h) (one k d) i j m n = ap suc (dealt-one l g h d (omega arith) (omega arith) m n)

  -- an earlier group has as many entries as a later one, or one more
  pub dealt-even : (l : List A) (g h : ℕ) → g ≤ h → h < w → (length (dealt w h l) ≤ length (dealt w g l)) × (length (dealt w g l) ≤ suc (length (dealt w h l)))
  dealt-even [] g h i j = (omega arith, omega arith)
  dealt-even (x ∷ l) zero zero i j = (omega arith, omega arith)
  dealt-even (x ∷ l) zero (suc h) i j = let r = dealt-even l h (w - 1) (omega arith) (omega arith) in (omega arith, omega arith)
  dealt-even (x ∷ l) (suc g) zero i j = absurd (omega arith)
  dealt-even (x ∷ l) (suc g) (suc h) i j = dealt-even l g h (omega arith) (omega arith)
