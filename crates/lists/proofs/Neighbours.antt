-- General facts of lists: membership in the list from an entry on, and neighbours in a rising list by a comparison that need not tell things apart.
use mathlib.Core.Path.{◌≡◌, ap, sym, ◌∙◌}
use mathlib.Core.Logic.{◌⊎◌, inl, inr}
use mathlib.Core.List.{List, [], ◌∷◌, ◌++◌}
use mathlib.Core.Option.{some}
use Prim.Native.Nat.{◌≤◌, Ordering}
use native.Mathlib.Omega.{arith}
use Rattle.lists.specs.Order.{same}
use Rattle.lists.specs.Select.{place, from, first}
use Rattle.lists.proofs.Tests.{◌∈◌, by-test, either, no_both}
use Rattle.lists.proofs.Members.{Decides, NoDup, in_head, in_tail, in-cons-cases, in-append-cases, in_moved, not-in-nil, nodup-head, nodup-tail}
use Rattle.lists.proofs.Places.{first-split, from-split}
use Rattle.lists.proofs.Rising.{Rising, rising_nil, rising_cons, rising-head, rising-tail, rising-right, rising-between}

module _ {A : Type 0} {c : A → A → Ordering} (w : Decides c) where
  -- a member that does not stand before x is in the list from x on
  pub in-from : (x : A) {l : List A} {y : A} → y ∈ l → place c x l ≤ place c y l → y ∈ from c x l
  in-from x {l = []} m h = m
  in-from x {l = z ∷ l} {y} m h =
      by-test (same c x z)
      (λ t. rw t m)
      (λ t. by-test (same c y z)
      (λ u. absurd (omega (arith, rw (t, u) at h)))
      (λ u. rw t
      (in-from x {l = l} (either (in-cons-cases m) (λ q. no_both (ap (same c y) (sym q) ∙ w.self y) u) (λ k. k)) (omega (arith, rw (t, u) at h)))))

  -- and the other way round
  pub of-from : (x : A) {l : List A} {y : A} → NoDup l → y ∈ from c x l → (y ∈ l) × (place c x l ≤ place c y l)
  of-from x {l = []} d m = not-in-nil m
  of-from x {l = z ∷ l} {y} d m =
      by-test (same c x z)
      (λ t. (rw t at m, rw t (omega arith)))
      (λ t.
      let r = of-from x {l = l} (nodup-tail d) (rw t at m) in
      by-test (same c y z)
      (λ u. absurd (nodup-head d (in_moved (w.sound y z u) r.0)))
      (λ u. (in_tail r.0, rw (t, u) (omega (arith, r.1)))))

module _ {A : Type 0} {c : A → A → Ordering} (apart : (x y : A) → c x y ≡ Ordering.lt → c y x ≡ Ordering.lt → ⊥) where
  -- nothing of a rising list stands between two neighbours: what exceeds x is y or exceeds y
  pub neighbours-gap : (a : List A) {x y z : A} (b : List A) → Rising c (a ++ (x ∷ y ∷ b)) → z ∈ (a ++ (x ∷ y ∷ b)) → c x z ≡ Ordering.lt
      → (z ≡ y) ⊎ (c y z ≡ Ordering.lt)
  neighbours-gap a {x} {y} {z} b r m e =
      either (in-append-cases a m)
      (λ i. absurd (apart x z e (rising-between a r i in_head)))
      (λ i. either (in-cons-cases i)
      (λ q. let f : c x x ≡ Ordering.lt = ap (c x) (sym q) ∙ e in absurd (apart x x f f))
      (λ j. either (in-cons-cases j) (λ q. inl q) (λ k. inr (rising-head (rising-tail (rising-right a (x ∷ y ∷ b) r)) k))))

  -- nothing exceeds the last of a rising list
  pub last-greatest : (a : List A) {x z : A} → Rising c (a ++ (x ∷ [])) → z ∈ (a ++ (x ∷ [])) → c x z ≡ Ordering.lt → ⊥
  last-greatest a {x} {z} r m e =
      either (in-append-cases a m)
      (λ i. apart x z e (rising-between a r i in_head))
      (λ i. either (in-cons-cases i) (λ q. let f : c x x ≡ Ordering.lt = ap (c x) (sym q) ∙ e in apart x x f f) (λ j. not-in-nil j))

pub rising-from : {A : Type 0} {c : A → A → Ordering} (d : A → A → Ordering) (x : A) {l : List A} → Rising c l → Rising c (from d x l)
rising-from d x rising_nil = rising_nil
rising-from d x (rising_cons {x = y} k r) = by-test (same d x y) (λ t. rw t (rising_cons k r)) (λ t. rw t (rising-from d x r))

-- the list from a member on begins with it
pub first-from : {A : Type 0} {c : A → A → Ordering} → Decides c → {x : A} {l : List A} → x ∈ l → first (from c x l) ≡ some x
first-from {c = c} w {x} m =
    let s = first-split w m in
    ap (λ l. first (from c x l)) s.2 ∙ ap first (from-split w s.0 x s.1 s.3)
