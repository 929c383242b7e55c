-- Exactly k things have a property: a list without repetition that holds just these; and how such numbers add up and multiply.
use mathlib.Core.Path.{◌≡◌, refl, ap, ap₂, sym, ◌∙◌}
use mathlib.Core.Logic.{◌⊎◌, inl, inr}
use mathlib.Core.Bool.{Bool, true}
use mathlib.Core.List.{List, [], ◌∷◌, ◌++◌, map}
use Prim.Native.Nat.{ℕ, ◌+◌, ◌*◌}
use native.Mathlib.Nat.{zero-mul, suc-mul}
use native.Mathlib.Omega.{arith}
use lib.ListN.{length, length-append, length-map}
use Rattle.lists.specs.Select.{keep}
use Rattle.lists.proofs.Tests.{◌∈◌, either}
use Rattle.lists.proofs.Permute.{perm-length}
use Rattle.lists.proofs.Members.{NoDup, one, empty, in_head, in_tail, in_moved, in-single, in-cons-cases, in_append_left, in_append_right, in-append-cases, in-keep, of-keep, in_map, of_map, not-in-nil, nodup-single, nodup_append, nodup-keep, nodup-map}
use Rattle.lists.proofs.Pigeon.{same-members-perm}

pub record Exactly {A : Type 0} (P : A → Type 0) (k : ℕ) : Type 0 where
  pub those : List A
  pub apart : NoDup those
  pub sound : (x : A) → x ∈ those → P x
  pub all : (x : A) → P x → x ∈ those
  pub number : length those ≡ k

module _ {A : Type 0} where
  pub exactly-unique : {P : A → Type 0} {k m : ℕ} → Exactly P k → Exactly P m → k ≡ m
  exactly-unique s t =
      sym s.number ∙ perm-length (same-members-perm s.apart t.apart (λ x i. t.all x (s.sound x i)) (λ x i. s.all x (t.sound x i))) ∙ t.number

  pub exactly-as : {P : A → Type 0} {k m : ℕ} → k ≡ m → Exactly P k → Exactly P m
  exactly-as e s = record { those = s.those; apart = s.apart; sound = s.sound; all = s.all; number = s.number ∙ e }

  pub exactly-same : {P Q : A → Type 0} {k : ℕ} → ((x : A) → P x → Q x) → ((x : A) → Q x → P x) → Exactly P k → Exactly Q k
  exactly-same f g s =
      record { those = s.those; apart = s.apart; sound = λ x i. f x (s.sound x i); all = λ x q. s.all x (g x q); number = s.number }

  pub exactly-one : {P : A → Type 0} (a : A) → P a → ((x : A) → P x → x ≡ a) → Exactly P 1
  exactly-one a p h =
      record { those = a ∷ []; apart = nodup-single a; sound = λ x i. rw (in-single i) p; all = λ x q. in_moved (sym (h x q)) in_head; number = refl }

  -- the entries of a list that pass
  pub exactly-keep : (p : A → Bool) {l : List A} → NoDup l → Exactly (λ x. (x ∈ l) × (p x ≡ true)) (length (keep p l))
  exactly-keep p {l} d =
      record { those = keep p l; apart = nodup-keep p d; sound = λ x i. of-keep p l i; all = λ x q. in-keep p q.0 q.1; number = refl }

  pub exactly-none : {P : A → Type 0} → ((x : A) → P x → ⊥) → Exactly P 0
  exactly-none h = record { those = []; apart = empty; sound = λ x i. not-in-nil i; all = λ x q. absurd (h x q); number = refl }

  pub exactly-either : {P Q : A → Type 0} {k m : ℕ} → Exactly P k → Exactly Q m → ((x : A) → P x → Q x → ⊥) → Exactly (λ x. P x ⊎ Q x) (k + m)
  exactly-either s t h = record {
    those = s.those ++ t.those;
    apart = nodup_append s.apart t.apart (λ x i j. h x (s.sound x i) (t.sound x j));
    sound = λ x i. either (in-append-cases s.those i) (λ j. inl (s.sound x j)) (λ j. inr (t.sound x j));
    all = λ x q. either q (λ p. in_append_left t.those (s.all x p)) (λ p. in_append_right s.those (t.all x p));
    number = length-append s.those t.those ∙ ap₂ ◌+◌ s.number t.number;
  }

-- things that correspond to each other one by one
pub exactly-map : {A B : Type 0} {P : A → Type 0} {Q : B → Type 0} {k : ℕ} (g : A → B) → ((x : A) → P x → Q (g x))
    → ((y : B) → Q y → (x : A) × P x × (y ≡ g x)) → ((x y : A) → P x → P y → g x ≡ g y → x ≡ y) → Exactly P k → Exactly Q k
exactly-map g into back apart s = record {
  those = map g s.those;
  apart = nodup-map g (λ x y i j. apart x y (s.sound x i) (s.sound y j)) s.apart;
  sound = λ y i. let r = of_map g s.those i in rw r.2 (into r.0 (s.sound r.0 r.1));
  all = λ y q. let r = back y q in in_moved (sym r.2) (in_map g (s.all r.0 r.1));
  number = length-map s.those g ∙ s.number;
}

-- k things, with each of them m others, and each pair in one way: k times m pairs
module _ {A B C : Type 0} {P : A → Type 0} {Q : A → B → Type 0} {m : ℕ} (g : A → B → C)
    (others : (a : A) → P a → Exactly (Q a) m)
    (left : (a a' : A) (b b' : B) → P a → P a' → Q a b → Q a' b' → g a b ≡ g a' b' → a ≡ a')
    (right : (a : A) (b b' : B) → P a → Q a b → Q a b' → g a b ≡ g a b' → b ≡ b') where
  -- the pairs whose first part stands in a list without repetition
  from_list : {l : List A} → NoDup l → ((a : A) → a ∈ l → P a)
      → Exactly (λ z. (a : A) × (b : B) × (a ∈ l) × Q a b × (z ≡ g a b)) (length l * m)
  from_list empty h = exactly-as (sym (zero-mul m)) (exactly-none (λ z q. not-in-nil q.2))
  from_list (one {x = a} {l = l} n d) h =
      let p = h a in_head in
      let first : Exactly (λ z. (b : B) × Q a b × (z ≡ g a b)) m =
      exactly-map (g a) (λ b q. (b, q, refl)) (λ z q. q) (λ b b'. right a b b' p) (others a p) in
      let later = from_list d (λ x i. h x (in_tail i)) in
      let count : m + length l * m ≡ length (a ∷ l) * m = omega (arith, suc-mul (length l) m) in
      exactly-as count
      (exactly-same
      (λ z q. either q (λ r. (a, r.0, in_head, r.1, r.2)) (λ r. (r.0, r.1, in_tail r.2, r.3, r.4)))
      (λ z q. either (in-cons-cases q.2) (λ e. inl (q.1, rw e at q.3, q.4 ∙ ap (λ x. g x q.1) e)) (λ i. inr (q.0, q.1, i, q.3, q.4)))
      (exactly-either first later
      (λ z q r. n (in_moved (sym (left a r.0 q.0 r.1 p (h r.0 (in_tail r.2)) q.1 r.3 (sym q.2 ∙ r.4))) r.2))))

  pub exactly-pairs : {R : C → Type 0} {k : ℕ} → Exactly P k
      → ((a : A) (b : B) → P a → Q a b → R (g a b))
      → ((z : C) → R z → (a : A) × (b : B) × P a × Q a b × (z ≡ g a b))
      → Exactly R (k * m)
  exactly-pairs s into back =
      exactly-as (ap (◌* m) s.number)
      (exactly-same
      (λ z q. rw q.4 (into q.0 q.1 (s.sound q.0 q.2) q.3))
      (λ z r. let q = back z r in (q.0, q.1, s.all q.0 q.2, q.3, q.4))
      (from_list s.apart s.sound))
