-- Tests with an answer of type Bool: cases on an answer, `&&`, `cond`, and what `each` and `some_of` say of the members of a list.
use mathlib.Core.Path.{◌≡◌, refl, ap, sym, ◌∙◌}
use mathlib.Core.Logic.{◌⊎◌, inl, inr}
use mathlib.Core.Bool.{Bool, true, false, not, cond, ◌&&◌, ◌||◌, true≢false}
use mathlib.Core.List.Memᴰ
use mathlib.Core.List.{List, [], ◌∷◌, ◌++◌}
use Prim.Native.Nat.{ℕ}
use native.Mathlib.Omega.{arith}
use Rattle.lists.specs.Select.{each, some_of}
pub use Rattle.lists.specs.Members.{◌∈◌}

-- cases on a test
pub by-test {ℓ} : {P : Type ℓ} (b : Bool) → (b ≡ true → P) → (b ≡ false → P) → P
by-test true f g = f refl
by-test false f g = g refl

-- a test has one answer
pub no_both {ℓ} : {P : Type ℓ} {b : Bool} → b ≡ true → b ≡ false → P
no_both e f = absurd (true≢false (sym e ∙ f))

-- An equation of two different constructors proves anything: cite it as `clash cc`, for `cc` makes 0 ≡ 1 of it.
-- two constructors are equal, says `cc`
pub clash {ℓ} : {P : Type ℓ} → ◌≡◌ {A = ℕ} 0 1 → P
clash e = absurd (omega arith)

-- cases on a sum
pub either {ℓ ℓ' ℓ''} : {A : Type ℓ} {B : Type ℓ'} {P : Type ℓ''} → A ⊎ B → (A → P) → (B → P) → P
either (inl a) f g = f a
either (inr b) f g = g b

-- a test that is not true is false, and the other way round
pub is_false : (b : Bool) → (b ≡ true → ⊥) → b ≡ false
is_false true h = absurd (h refl)
is_false false h = refl

-- two tests are equal if each is true where the other is
pub same_tests : (a b : Bool) → (a ≡ true → b ≡ true) → (b ≡ true → a ≡ true) → a ≡ b
same_tests true b f g = sym (f refl)
same_tests false true f g = g refl
same_tests false false f g = refl

pub not-of-true : (b : Bool) → not b ≡ true → b ≡ false
not-of-true true e = sym e
not-of-true false e = refl

pub not_of_false : (b : Bool) → not b ≡ false → b ≡ true
not_of_false true e = refl
not_of_false false e = sym e

-- `a && b` is true: both are
pub and-true : (a b : Bool) → (a && b) ≡ true → (a ≡ true) × (b ≡ true)
and-true true b e = (refl, e)
and-true false b e = (e, absurd (true≢false (sym e)))

pub true-and : {a b : Bool} → a ≡ true → b ≡ true → (a && b) ≡ true
true-and e f = rw (e, f)

-- `a || b` is true: one of them is
pub or-true : (a b : Bool) → (a || b) ≡ true → (a ≡ true) ⊎ (b ≡ true)
or-true true b e = inl refl
or-true false b e = inr e

module _ {ℓ κ} {A : Type ℓ} (P : A → Type κ) where
  -- what holds of both arms holds of the chosen one, and each arm may use what the test said
  pub choose-case : (b : Bool) {x y : A} → (b ≡ true → P x) → (b ≡ false → P y) → P (cond b x y)
  choose-case true p q = p refl
  choose-case false p q = q refl

-- the chosen arm, by the test's answer
pub cond-true {ℓ} : {A : Type ℓ} {b : Bool} (x y : A) → b ≡ true → cond b x y ≡ x
cond-true x y e = ap (λ t. cond t x y) e

pub cond-false {ℓ} : {A : Type ℓ} {b : Bool} (x y : A) → b ≡ false → cond b x y ≡ y
cond-false x y e = ap (λ t. cond t x y) e

-- a choice whose second arm is false
pub cond-and : (a b : Bool) → cond a b false ≡ true → (a ≡ true) × (b ≡ true)
cond-and true b e = (refl, e)
cond-and false b e = (e, absurd (true≢false (sym e)))

module _ {A : Type 0} (p : A → Bool) where
  pub each-cons : {x : A} (l : List A) → p x ≡ true → each p l ≡ true → each p (x ∷ l) ≡ true
  each-cons l e f = rw (e, f)

  pub each-head : (x : A) (l : List A) → each p (x ∷ l) ≡ true → p x ≡ true
  each-head x l e = (cond-and (p x) (each p l) e).0

  pub each_tail : (x : A) (l : List A) → each p (x ∷ l) ≡ true → each p l ≡ true
  each_tail x l e = (cond-and (p x) (each p l) e).1

  -- if every member passes, `each` says true
  pub each-true : (l : List A) → ((x : A) → x ∈ l → p x ≡ true) → each p l ≡ true
  each-true [] h = refl
  each-true (x ∷ l) h = each-cons l (h x (Memᴰ.head refl)) (each-true l (λ y m. h y (Memᴰ.tail m)))

  -- if `each` says true, every member passes
  pub each_member : {x : A} {l : List A} → each p l ≡ true → x ∈ l → p x ≡ true
  each_member {l = []} e x6 = elim x6 [ ]
  each_member {l = x ∷ l} e (Memᴰ.head q) = ap p q ∙ each-head x l e
  each_member {l = x ∷ l} e (Memᴰ.tail m) = each_member (each_tail x l e) m

  -- if some member fails, `each` says false
  pub each-false : {l : List A} {x : A} → x ∈ l → p x ≡ false → each p l ≡ false
  each-false {l} m e = is_false (each p l) (λ t. no_both (each_member t m) e)

  pub each_append : (l m : List A) → each p (l ++ m) ≡ (each p l && each p m)
  each_append [] m = refl
  each_append (x ∷ l) m = by-test (p x) (λ t. rw (t, each_append l m)) (λ f. rw f)

  -- if `some_of` says true, some member passes
  pub some-member : (l : List A) → some_of p l ≡ true → (x : A) × (x ∈ l) × (p x ≡ true)
  some-member [] e = absurd (true≢false (sym e))
  some-member (x ∷ l) e =
      by-test (p x)
      (λ t. (x, Memᴰ.head refl, t))
      (λ f. let r = some-member l (rw f at e) in (r.0, Memᴰ.tail r.1, r.2))

  -- if some member passes, `some_of` says true
  pub some-true : {x : A} {l : List A} → x ∈ l → p x ≡ true → some_of p l ≡ true
  some-true {l = []} x6 e = elim x6 [ ]
  some-true {l = y ∷ l} (Memᴰ.head q) e = rw (sym (ap p q) ∙ e)
  some-true {l = y ∷ l} (Memᴰ.tail m) e = by-test (p y) (λ t. rw t) (λ f. rw f (some-true m e))

  pub some-append : (l m : List A) → some_of p (l ++ m) ≡ (some_of p l || some_of p m)
  some-append [] m = refl
  some-append (x ∷ l) m = by-test (p x) (λ t. rw t) (λ f. rw (f, some-append l m))
