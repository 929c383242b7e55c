-- Comparisons that are linear orders: their laws, the comparison of numbers, comparing by a key, and comparing by a key first.
use mathlib.Core.Path.{◌≡◌, refl, ap, ap₂, sym, ◌∙◌}
use mathlib.Core.Logic.{◌⊎◌, inl, inr}
use mathlib.Core.Bool.{true, false, true≢false}
use Prim.Native.Nat.{ℕ, ◌<◌, compare, Ordering}
use native.Mathlib.Omega.{arith}
use lib.Dec.{is_le, compare_is_eq, leb}
use borrow.Author.Tests.{lt-leb, leb-true, leb-false, eq-eqb, eqb-true, eqb-false}
use Rattle.lists.specs.Order.{then, at_most, same}
use Rattle.lists.proofs.Tests.{by-test, no_both, either, is_false}

-- the answer with the two sides exchanged
abbrev pub opposite : Ordering → Ordering
opposite Ordering.lt = Ordering.gt
opposite Ordering.eq = Ordering.eq
opposite Ordering.gt = Ordering.lt

-- c decides a linear order: equal says the same, the sides may be turned, less is transitive
pub record Lawful {A : Type 0} (c : A → A → Ordering) : Type 0 where
  pub self : (x : A) → c x x ≡ Ordering.eq
  pub equal : (x y : A) → c x y ≡ Ordering.eq → x ≡ y
  pub turned : (x y : A) → c y x ≡ opposite (c x y)
  pub chain : (x y z : A) → c x y ≡ Ordering.lt → c y z ≡ Ordering.lt → c x z ≡ Ordering.lt

-- cases on an answer
pub by_order {ℓ} : {P : Type ℓ} (o : Ordering) → (o ≡ Ordering.lt → P) → (o ≡ Ordering.eq → P) → (o ≡ Ordering.gt → P) → P
by_order Ordering.lt f g h = f refl
by_order Ordering.eq f g h = g refl
by_order Ordering.gt f g h = h refl

-- an answer is one of the three
pub lt-not-eq {ℓ} : {P : Type ℓ} {o : Ordering} → o ≡ Ordering.lt → o ≡ Ordering.eq → P
lt-not-eq e f = absurd (true≢false (sym (ap compare_is_eq f) ∙ ap compare_is_eq e))

pub lt-not-gt {ℓ} : {P : Type ℓ} {o : Ordering} → o ≡ Ordering.lt → o ≡ Ordering.gt → P
lt-not-gt e f = absurd (true≢false (sym (ap is_le e) ∙ ap is_le f))

pub eq-not-gt {ℓ} : {P : Type ℓ} {o : Ordering} → o ≡ Ordering.eq → o ≡ Ordering.gt → P
eq-not-gt e f = absurd (true≢false (sym (ap is_le e) ∙ ap is_le f))

pub opposite-then : (o p : Ordering) → opposite (then o p) ≡ then (opposite o) (opposite p)
opposite-then Ordering.lt p = refl
opposite-then Ordering.eq p = refl
opposite-then Ordering.gt p = refl

pub then-eq : (o : Ordering) → then o Ordering.eq ≡ o
then-eq Ordering.lt = refl
then-eq Ordering.eq = refl
then-eq Ordering.gt = refl

pub then-assoc : (o p q : Ordering) → then (then o p) q ≡ then o (then p q)
then-assoc Ordering.lt p q = refl
then-assoc Ordering.eq p q = refl
then-assoc Ordering.gt p q = refl

-- `then o p` says equal: both do
pub then-is-eq : (o p : Ordering) → then o p ≡ Ordering.eq → (o ≡ Ordering.eq) × (p ≡ Ordering.eq)
then-is-eq Ordering.lt p e = (e, lt-not-eq refl e)
then-is-eq Ordering.eq p e = (refl, e)
then-is-eq Ordering.gt p e = (e, eq-not-gt e refl)

-- `then o p` says less: the first does, or the first says equal and the second less
pub then-is-lt : (o p : Ordering) → then o p ≡ Ordering.lt → (o ≡ Ordering.lt) ⊎ ((o ≡ Ordering.eq) × (p ≡ Ordering.lt))
then-is-lt Ordering.lt p e = inl refl
then-is-lt Ordering.eq p e = inr (refl, e)
then-is-lt Ordering.gt p e = lt-not-gt e refl

-- what the tests `is_le` and `compare_is_eq` say of an answer
pub is_le-true : (o : Ordering) → is_le o ≡ true → (o ≡ Ordering.lt) ⊎ (o ≡ Ordering.eq)
is_le-true Ordering.lt e = inl refl
is_le-true Ordering.eq e = inr refl
is_le-true Ordering.gt e = absurd (true≢false (sym e))

pub is_le-false : (o : Ordering) → is_le o ≡ false → o ≡ Ordering.gt
is_le-false Ordering.lt e = absurd (true≢false e)
is_le-false Ordering.eq e = absurd (true≢false e)
is_le-false Ordering.gt e = refl

pub is_eq-true : (o : Ordering) → compare_is_eq o ≡ true → o ≡ Ordering.eq
is_eq-true Ordering.lt e = absurd (true≢false (sym e))
is_eq-true Ordering.eq e = refl
is_eq-true Ordering.gt e = absurd (true≢false (sym e))

module _ {A : Type 0} {c : A → A → Ordering} (w : Lawful c) where
  -- the sides turned
  pub gt-of-lt : (x y : A) → c x y ≡ Ordering.lt → c y x ≡ Ordering.gt
  gt-of-lt x y e = w.turned x y ∙ ap opposite e

  pub lt-of-gt : (x y : A) → c x y ≡ Ordering.gt → c y x ≡ Ordering.lt
  lt-of-gt x y e = w.turned x y ∙ ap opposite e

  -- equal things compare equal
  pub eq-of-path : {x y : A} → x ≡ y → c x y ≡ Ordering.eq
  eq-of-path {x} {y} e = ap (c x) (sym e) ∙ w.self x

  pub lt-asymmetric {ℓ} : {P : Type ℓ} (x y : A) → c x y ≡ Ordering.lt → c y x ≡ Ordering.lt → P
  lt-asymmetric x y e f = lt-not-gt f (gt-of-lt x y e)

  -- x is at most y if it is less
  pub lt-at_most : (x y : A) → c x y ≡ Ordering.lt → at_most c x y ≡ true
  lt-at_most x y e = ap is_le e

  pub eq-at_most : {x y : A} → x ≡ y → at_most c x y ≡ true
  eq-at_most e = ap is_le (eq-of-path e)

  pub at_most-self : (x : A) → at_most c x x ≡ true
  at_most-self x = ap is_le (w.self x)

  -- at most: less or equal
  pub at_most-cases : (x y : A) → at_most c x y ≡ true → (c x y ≡ Ordering.lt) ⊎ (x ≡ y)
  at_most-cases x y e = either (is_le-true (c x y) e) (λ f. inl f) (λ f. inr (w.equal x y f))

  -- what is not at most y exceeds y
  pub not-at_most : (x y : A) → at_most c x y ≡ false → c y x ≡ Ordering.lt
  not-at_most x y e = lt-of-gt x y (is_le-false (c x y) e)

  pub lt-not-at_most : (x y : A) → c y x ≡ Ordering.lt → at_most c x y ≡ false
  lt-not-at_most x y e = ap is_le (gt-of-lt y x e)

  -- what is not at most y has y at most it
  pub at_most-turned : (x y : A) → at_most c x y ≡ false → at_most c y x ≡ true
  at_most-turned x y e = lt-at_most y x (not-at_most x y e)

  pub at_most-lt-trans : (x y z : A) → at_most c x y ≡ true → c y z ≡ Ordering.lt → c x z ≡ Ordering.lt
  at_most-lt-trans x y z e f = either (at_most-cases x y e) (λ l. w.chain x y z l f) (λ p. ap (λ t. c t z) p ∙ f)

  pub lt-at_most-trans : (x y z : A) → c x y ≡ Ordering.lt → at_most c y z ≡ true → c x z ≡ Ordering.lt
  lt-at_most-trans x y z e f = either (at_most-cases y z f) (λ l. w.chain x y z e l) (λ p. ap (c x) (sym p) ∙ e)

  pub at_most-trans : (x y z : A) → at_most c x y ≡ true → at_most c y z ≡ true → at_most c x z ≡ true
  at_most-trans x y z e f = either (at_most-cases x y e) (λ l. lt-at_most x z (lt-at_most-trans x y z l f)) (λ p. ap (λ t. at_most c t z) p ∙ f)

  pub at_most-anti : (x y : A) → at_most c x y ≡ true → at_most c y x ≡ true → x ≡ y
  at_most-anti x y e f = either (at_most-cases x y e) (λ l. no_both f (lt-not-at_most y x l)) (λ p. p)

  -- `same` says true exactly of equal things
  pub same_true : (x y : A) → same c x y ≡ true → x ≡ y
  same_true x y e = w.equal x y (is_eq-true (c x y) e)

  pub same_self : (x : A) → same c x x ≡ true
  same_self x = ap compare_is_eq (w.self x)

  pub same-of-path : {x y : A} → x ≡ y → same c x y ≡ true
  same-of-path e = ap compare_is_eq (eq-of-path e)

  pub same-of-apart : (x y : A) → (x ≡ y → ⊥) → same c x y ≡ false
  same-of-apart x y h = is_false (same c x y) (λ t. h (same_true x y t))

-- Numbers.
pub compare_self : (a : ℕ) → compare a a ≡ Ordering.eq
compare_self a = is_eq-true (compare a a) (eq-eqb a a refl)

pub eq-of-compare : (a b : ℕ) → compare a b ≡ Ordering.eq → a ≡ b
eq-of-compare a b e = eqb-true a b (ap compare_is_eq e)

pub compare-gt : (a b : ℕ) → b < a → compare a b ≡ Ordering.gt
compare-gt a b h = is_le-false (compare a b) (lt-leb a b h)

pub gt-of-compare : (a b : ℕ) → compare a b ≡ Ordering.gt → b < a
gt-of-compare a b e = leb-false a b (ap is_le e)

pub compare-lt : (a b : ℕ) → a < b → compare a b ≡ Ordering.lt
compare-lt a b h =
    by_order (compare a b)
    (λ e. e)
    (λ e. let q = eq-of-compare a b e in absurd (omega arith))
    (λ e. let q = gt-of-compare a b e in absurd (omega arith))

pub lt-of-compare : (a b : ℕ) → compare a b ≡ Ordering.lt → a < b
lt-of-compare a b e =
    let h = leb-true a b (ap is_le e) in
    let n = eqb-false a b (ap compare_is_eq e) in
    by-test (leb b a)
    (λ t. let k = leb-true b a t in let q : a ≡ b = omega arith in absurd (n q))
    (λ t. leb-false b a t)

-- the comparison of numbers is a linear order
pub compare-lawful : Lawful compare
compare-lawful = record {
  self = compare_self;
  equal = eq-of-compare;
  turned = λ a b. by_order (compare a b)
      (λ e. compare-gt b a (lt-of-compare a b e) ∙ sym (ap opposite e))
      (λ e. ap₂ compare (sym (eq-of-compare a b e)) (eq-of-compare a b e) ∙ e ∙ sym (ap opposite e))
      (λ e. compare-lt b a (gt-of-compare a b e) ∙ sym (ap opposite e));
  chain = λ a b d e f. let h = lt-of-compare a b e in let k = lt-of-compare b d f in compare-lt a d (omega arith);
}

-- comparing by a key that tells things apart
pub on-lawful : {A B : Type 0} {c : B → B → Ordering} (f : A → B) → Lawful c → ((x y : A) → f x ≡ f y → x ≡ y) → Lawful {A = A} (λ x y. c (f x) (f y))
on-lawful f w one = record {
  self = λ x. w.self (f x);
  equal = λ x y e. one x y (w.equal (f x) (f y) e);
  turned = λ x y. w.turned (f x) (f y);
  chain = λ x y z. w.chain (f x) (f y) (f z);
}

-- d is a linear order among the things that have the same key
pub record LawfulWithin {A B : Type 0} (f : A → B) (d : A → A → Ordering) : Type 0 where
  pub self : (x : A) → d x x ≡ Ordering.eq
  pub equal : (x y : A) → f x ≡ f y → d x y ≡ Ordering.eq → x ≡ y
  pub turned : (x y : A) → f x ≡ f y → d y x ≡ opposite (d x y)
  pub chain : (x y z : A) → f x ≡ f y → f y ≡ f z → d x y ≡ Ordering.lt → d y z ≡ Ordering.lt → d x z ≡ Ordering.lt

-- comparing by a key first, and then by d among things with the same key
pub then-lawful : {A B : Type 0} {c : B → B → Ordering} {f : A → B} {d : A → A → Ordering} → Lawful c → LawfulWithin f d → Lawful {A = A} (λ x y. then (c (f x) (f y)) (d x y))
then-lawful {A} {B} {c} {f} {d} w v = record {
  self = λ x. rw (w.self (f x)) (v.self x);
  equal = λ x y e. let r = then-is-eq (c (f x) (f y)) (d x y) e in v.equal x y (w.equal (f x) (f y) r.0) r.1;
  turned = turned';
  chain = chain';
}
  where
    turned' : (x y : A) → then (c (f y) (f x)) (d y x) ≡ opposite (then (c (f x) (f y)) (d x y))
    turned' x y =
        by_order (c (f x) (f y))
        (λ e. rw (e, w.turned (f x) (f y), e))
        (λ e. rw (e, w.turned (f x) (f y), e) (v.turned x y (w.equal (f x) (f y) e)))
        (λ e. rw (e, w.turned (f x) (f y), e))

    chain' : (x y z : A) → then (c (f x) (f y)) (d x y) ≡ Ordering.lt → then (c (f y) (f z)) (d y z) ≡ Ordering.lt → then (c (f x) (f z)) (d x z) ≡ Ordering.lt
    chain' x y z e g =
        either (then-is-lt (c (f x) (f y)) (d x y) e)
        (λ l. either (then-is-lt (c (f y) (f z)) (d y z) g)
        (λ k. rw (w.chain (f x) (f y) (f z) l k))
        (λ k. rw (ap (c (f x)) (sym (w.equal (f y) (f z) k.0)) ∙ l)))
        (λ l. either (then-is-lt (c (f y) (f z)) (d y z) g)
        (λ k. rw (ap (λ t. c t (f z)) (w.equal (f x) (f y) l.0) ∙ k))
        (λ k. let p = w.equal (f x) (f y) l.0 in
        rw (ap (λ t. c t (f z)) p ∙ k.0) (v.chain x y z p (w.equal (f y) (f z) k.0) l.1 k.1)))

-- comparing by a first key, and then by a second one that tells apart the things with the same first key
pub keys-lawful : {A B C : Type 0} {c : B → B → Ordering} {d : C → C → Ordering} (f : A → B) (g : A → C) → Lawful c → Lawful d
    → ((x y : A) → f x ≡ f y → g x ≡ g y → x ≡ y) → Lawful {A = A} (λ x y. then (c (f x) (f y)) (d (g x) (g y)))
keys-lawful f g w v one =
    then-lawful {f = f} w record {
      self = λ x. v.self (g x);
      equal = λ x y p e. one x y p (v.equal (g x) (g y) e);
      turned = λ x y p. v.turned (g x) (g y);
      chain = λ x y z p q. v.chain (g x) (g y) (g z);
    }
