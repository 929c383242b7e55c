-- More laws of lists: lexicographic comparison after a common beginning, and places in a list that rises.
use mathlib.Core.Path.{◌≡◌, refl, ap, ap₂, sym, ◌∙◌}
use mathlib.Core.Bool.{Bool, true, false, not}
use mathlib.Core.List.{List, [], ◌∷◌, ◌++◌}
use Prim.Native.Nat.{ℕ, suc, Ordering, compare}
use native.Mathlib.Omega.{arith}
use Rattle.lists.specs.Order.{same, lex_by}
use Rattle.lists.specs.Select.{keep, once, place}
use Rattle.lists.proofs.Tests.{◌∈◌, by-test, either, no_both, not-of-true}
use Rattle.lists.proofs.Comparison.{Lawful, opposite, by_order, compare-lt, compare-gt, compare_self, lt-of-compare, gt-of-compare, eq-of-compare}
use Rattle.lists.proofs.Members.{Decides, in_head, in_tail, in-cons-cases, not-in-nil, of-keep, of-once}
use Rattle.lists.proofs.Rising.{Rising, rising_nil, rising_cons, rising-keep}

-- the flag after the entries of a list
abbrev pub flag_after : {A : Type 0} → (Bool → Bool) → Bool → List A → Bool
flag_after next e [] = e
flag_after next e (x ∷ l) = flag_after next (next e) l

-- a common beginning only moves the flag
pub lex_by-strip : {A : Type 0} {c : A → A → Ordering} → Lawful c → (next : Bool → Bool) (e : Bool) (p l m : List A)
    → lex_by c next e (p ++ l) (p ++ m) ≡ lex_by c next (flag_after next e p) l m
lex_by-strip w next e [] l m = refl
lex_by-strip w next e (x ∷ p) l m = rw (w.self x) (lex_by-strip w next (next e) p l m)

pub flag_after-last : {A : Type 0} (next : Bool → Bool) (e : Bool) (p : List A) (x : A) → flag_after next e (p ++ (x ∷ [])) ≡ next (flag_after next e p)
flag_after-last next e [] x = refl
flag_after-last next e (y ∷ p) x = flag_after-last next (next e) p x

-- a rising list rises by any comparison that agrees on less
pub rising-change : {A : Type 0} {c d : A → A → Ordering} {l : List A} → Rising c l
    → ((x y : A) → x ∈ l → y ∈ l → c x y ≡ Ordering.lt → d x y ≡ Ordering.lt) → Rising d l
rising-change rising_nil h = rising_nil
rising-change (rising_cons {x = x} k r) h =
    rising_cons
    (λ y m. h x y in_head (in_tail m) (k y m))
    (rising-change r (λ y z i j. h y z (in_tail i) (in_tail j)))

pub compare-suc : (a b : ℕ) → compare (suc a) (suc b) ≡ compare a b
compare-suc a b =
    by_order (compare a b)
    (λ e. compare-lt (suc a) (suc b) (omega (arith, lt-of-compare a b e)) ∙ sym e)
    (λ e. ap (λ n. compare (suc a) (suc n)) (sym (eq-of-compare a b e)) ∙ compare_self (suc a) ∙ sym e)
    (λ e. compare-gt (suc a) (suc b) (omega (arith, gt-of-compare a b e)) ∙ sym e)

module _ {A : Type 0} {c : A → A → Ordering} (w : Decides c) where
  -- the entries that pass, each once, stand in the order of their places
  pub once-keep-rises : (p : A → Bool) (l : List A) → Rising (λ x y. compare (place c x l) (place c y l)) (once c (keep p l))
  once-keep-rises p [] = rising_nil
  once-keep-rises p (z ∷ l) =
      by-test (p z)
      (λ t.
      rw t
      (rising_cons {x = z} {l = keep (λ y. not (same c z y)) (once c (keep p l))}
      (λ y m. rw (w.self z, other y (apart y m)) (compare-lt 0 (suc (place c y l)) (omega arith)))
      (rising-change (rising-keep (λ y. not (same c z y)) (once-keep-rises p l))
      (λ x y i j e. rw (other x (apart x i), other y (apart y j)) (compare-suc (place c x l) (place c y l) ∙ e)))))
      (λ t.
      rw t
      (rising-change (once-keep-rises p l)
      (λ x y i j e. rw (other x (failing t x i), other y (failing t y j)) (compare-suc (place c x l) (place c y l) ∙ e))))
    where
      other : (y : A) → (y ≡ z → ⊥) → same c y z ≡ false
      other y n = by-test (same c y z) (λ t. absurd (n (w.sound y z t))) (λ t. t)

      apart : (y : A) → y ∈ keep (λ y. not (same c z y)) (once c (keep p l)) → y ≡ z → ⊥
      apart y m e = no_both (ap (same c z) e ∙ w.self z) (not-of-true (same c z y) (of-keep (λ y. not (same c z y)) (once c (keep p l)) m).1)

      failing : p z ≡ false → (y : A) → y ∈ once c (keep p l) → y ≡ z → ⊥
      failing t y m e = no_both (of-keep p l (of-once c (keep p l) m)).1 (ap p e ∙ t)

  -- the places of a rising list's members compare as the members do, also where the comparison is linear only among them
  pub rising-places : {d : A → A → Ordering} → ((x : A) → d x x ≡ Ordering.eq) → ((x y : A) → d y x ≡ opposite (d x y))
      → {l : List A} {x y : A} → Rising d l → x ∈ l → y ∈ l → compare (place c x l) (place c y l) ≡ d x y
  rising-places self turned rising_nil i j = not-in-nil i
  rising-places {d} self turned {x = x} {y = y} (rising_cons {x = z} {l = l} h r) i j =
      by-test (same c x z)
      (λ t. by-test (same c y z)
      (λ u. rw (t, u) (sym (ap₂ d (w.sound x z t) (w.sound y z u) ∙ self z)))
      (λ u. rw (t, u) (compare-lt 0 (suc (place c y l)) (omega arith) ∙ sym (below x y t (other y u j)))))
      (λ t. by-test (same c y z)
      (λ u. rw (t, u) (compare-gt (suc (place c x l)) 0 (omega arith) ∙ sym (turned y x ∙ ap opposite (below y x u (other x t i)))))
      (λ u. rw (t, u) (compare-suc (place c x l) (place c y l) ∙ rising-places self turned r (other x t i) (other y u j))))
    where
      other : (y : A) → same c y z ≡ false → y ∈ (z ∷ l) → y ∈ l
      other y t m = either (in-cons-cases m) (λ q. no_both (ap (same c y) (sym q) ∙ w.self y) t) (λ k. k)

      below : (x y : A) → same c x z ≡ true → y ∈ l → d x y ≡ Ordering.lt
      below x y t m = ap (λ v. d v y) (w.sound x z t) ∙ h y m
