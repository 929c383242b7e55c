-- Lexicographic comparisons of lists: a linear order if the comparison of the entries is one, and how it computes.
-- `lex_by` is the general one: a flag says whether a proper beginning comes first or last, and the flag may change from entry to entry.
use mathlib.Core.Path.{◌≡◌, refl, ap, ap₂, sym, ◌∙◌}
use mathlib.Core.Bool.{Bool, true, false, cond}
use mathlib.Core.List.{List, [], ◌∷◌, ◌++◌, map}
use Prim.Native.Nat.{compare, Ordering}
use native.Mathlib.Omega.{arith}
use lib.ListN.{length}
use Rattle.lists.specs.Order.{then, lex, lex_by}
use Rattle.lists.proofs.Tests.{either}
use Rattle.lists.proofs.Comparison.{Lawful, opposite, compare-lawful, then-is-eq, then-is-lt, then-assoc, lt-not-eq, lt-not-gt, eq-not-gt, opposite-then}

-- the answers of the two flags are opposite
flag-turned : (e : Bool) → cond e Ordering.gt Ordering.lt ≡ opposite (cond e Ordering.lt Ordering.gt)
flag-turned true = refl
flag-turned false = refl

flag-turned' : (e : Bool) → cond e Ordering.lt Ordering.gt ≡ opposite (cond e Ordering.gt Ordering.lt)
flag-turned' true = refl
flag-turned' false = refl

not-eq {ℓ} : {P : Type ℓ} (e : Bool) → cond e Ordering.lt Ordering.gt ≡ Ordering.eq → P
not-eq true p = lt-not-eq refl p
not-eq false p = eq-not-gt p refl

not-eq' {ℓ} : {P : Type ℓ} (e : Bool) → cond e Ordering.gt Ordering.lt ≡ Ordering.eq → P
not-eq' true p = eq-not-gt p refl
not-eq' false p = lt-not-eq refl p

not-lts {ℓ} : {P : Type ℓ} (e : Bool) → cond e Ordering.lt Ordering.gt ≡ Ordering.lt → cond e Ordering.gt Ordering.lt ≡ Ordering.lt → P
not-lts true p q = lt-not-gt q refl
not-lts false p q = lt-not-gt p refl

module _ {A : Type 0} {c : A → A → Ordering} (w : Lawful c) (next : Bool → Bool) where
  lex_by-self : (e : Bool) (l : List A) → lex_by c next e l l ≡ Ordering.eq
  lex_by-self e [] = refl
  lex_by-self e (x ∷ l) = rw (w.self x) (lex_by-self (next e) l)

  lex_by-equal : (e : Bool) (l m : List A) → lex_by c next e l m ≡ Ordering.eq → l ≡ m
  lex_by-equal e [] [] p = refl
  lex_by-equal e [] (y ∷ m) p = not-eq e p
  lex_by-equal e (x ∷ l) [] p = not-eq' e p
  lex_by-equal e (x ∷ l) (y ∷ m) p =
      let r = then-is-eq (c x y) (lex_by c next (next e) l m) p in
      ap₂ ◌∷◌ (w.equal x y r.0) (lex_by-equal (next e) l m r.1)

  lex_by-turned : (e : Bool) (l m : List A) → lex_by c next e m l ≡ opposite (lex_by c next e l m)
  lex_by-turned e [] [] = refl
  lex_by-turned e [] (y ∷ m) = flag-turned e
  lex_by-turned e (x ∷ l) [] = flag-turned' e
  lex_by-turned e (x ∷ l) (y ∷ m) =
      ap₂ then (w.turned x y) (lex_by-turned (next e) l m) ∙ sym (opposite-then (c x y) (lex_by c next (next e) l m))

  lex_by-chain : (e : Bool) (l m n : List A) → lex_by c next e l m ≡ Ordering.lt → lex_by c next e m n ≡ Ordering.lt → lex_by c next e l n ≡ Ordering.lt
  lex_by-chain e [] [] n p q = lt-not-eq p refl
  lex_by-chain e [] (y ∷ m) [] p q = not-lts e p q
  lex_by-chain e [] (y ∷ m) (z ∷ n) p q = p
  lex_by-chain e (x ∷ l) [] [] p q = p
  lex_by-chain e (x ∷ l) [] (z ∷ n) p q = not-lts e q p
  lex_by-chain e (x ∷ l) (y ∷ m) [] p q = q
  lex_by-chain e (x ∷ l) (y ∷ m) (z ∷ n) p q =
      either (then-is-lt (c x y) (lex_by c next (next e) l m) p)
      (λ a. either (then-is-lt (c y z) (lex_by c next (next e) m n) q)
      (λ b. rw (w.chain x y z a b))
      (λ b. rw (ap (c x) (sym (w.equal y z b.0)) ∙ a)))
      (λ a. either (then-is-lt (c y z) (lex_by c next (next e) m n) q)
      (λ b. rw (ap (λ t. c t z) (w.equal x y a.0) ∙ b))
      (λ b. rw (ap (λ t. c t z) (w.equal x y a.0) ∙ b.0) (lex_by-chain (next e) l m n a.1 b.1)))

  -- every lexicographic comparison of lists is a linear order
  pub lex_by-lawful : (e : Bool) → Lawful (lex_by c next e)
  lex_by-lawful e = record { self = lex_by-self e; equal = lex_by-equal e; turned = lex_by-turned e; chain = lex_by-chain e }

module _ {A : Type 0} (c : A → A → Ordering) where
  -- `lex` is the one in which a proper beginning always comes first
  pub lex-is : (l m : List A) → lex_by c (λ b. b) true l m ≡ lex c l m
  lex-is [] [] = refl
  lex-is [] (y ∷ m) = refl
  lex-is (x ∷ l) [] = refl
  lex-is (x ∷ l) (y ∷ m) = ap (then (c x y)) (lex-is l m)

  -- first entries that compare equal do not matter
  pub lex-cons-eq : (x y : A) (l m : List A) → c x y ≡ Ordering.eq → lex c (x ∷ l) (y ∷ m) ≡ lex c l m
  lex-cons-eq x y l m e = rw e

  -- the smaller first entry decides
  pub lex-cons-lt : (x y : A) (l m : List A) → c x y ≡ Ordering.lt → lex c (x ∷ l) (y ∷ m) ≡ Ordering.lt
  lex-cons-lt x y l m e = rw e

  pub lex-cons-gt : (x y : A) (l m : List A) → c x y ≡ Ordering.gt → lex c (x ∷ l) (y ∷ m) ≡ Ordering.gt
  lex-cons-gt x y l m e = rw e

  -- lists of equal length decide before what follows them
  pub lex-append : (a b l m : List A) → length a ≡ length b → lex c (a ++ l) (b ++ m) ≡ then (lex c a b) (lex c l m)
  lex-append [] [] l m h = refl
  lex-append [] (y ∷ b) l m h = absurd (omega arith)
  lex-append (x ∷ a) [] l m h = absurd (omega arith)
  lex-append (x ∷ a) (y ∷ b) l m h =
      ap (then (c x y)) (lex-append a b l m (omega arith)) ∙ sym (then-assoc (c x y) (lex c a b) (lex c l m))

module _ {A : Type 0} {c : A → A → Ordering} (w : Lawful c) where
  -- the lexicographic comparison is a linear order
  pub lex-lawful : Lawful (lex c)
  lex-lawful =
      let v = lex_by-lawful w (λ b. b) true in
      record {
        self = λ l. sym (lex-is c l l) ∙ v.self l;
        equal = λ l m e. v.equal l m (lex-is c l m ∙ e);
        turned = λ l m. sym (lex-is c m l) ∙ v.turned l m ∙ ap opposite (lex-is c l m);
        chain = λ l m n e f. sym (lex-is c l n) ∙ v.chain l m n (lex-is c l m ∙ e) (lex-is c m n ∙ f);
      }

  -- a common beginning does not matter
  pub lex-strip : (p l m : List A) → lex c (p ++ l) (p ++ m) ≡ lex c l m
  lex-strip [] l m = refl
  lex-strip (x ∷ p) l m = rw (w.self x) (lex-strip p l m)

-- the lexicographic comparison of lists of numbers
pub lex-compare-lawful : Lawful (lex compare)
lex-compare-lawful = lex-lawful compare-lawful

-- comparing the lists of keys is comparing by the key
pub lex_map : {A B : Type 0} (c : B → B → Ordering) (f : A → B) (l m : List A) → lex c (map f l) (map f m) ≡ lex (λ x y. c (f x) (f y)) l m
lex_map c f [] [] = refl
lex_map c f [] (y ∷ m) = refl
lex_map c f (x ∷ l) [] = refl
lex_map c f (x ∷ l) (y ∷ m) = ap (then (c (f x) (f y))) (lex_map c f l m)

-- comparisons that agree give the same lexicographic comparison
pub lex-same : {A : Type 0} (c d : A → A → Ordering) → ((x y : A) → c x y ≡ d x y) → (l m : List A) → lex c l m ≡ lex d l m
lex-same c d h [] [] = refl
lex-same c d h [] (y ∷ m) = refl
lex-same c d h (x ∷ l) [] = refl
lex-same c d h (x ∷ l) (y ∷ m) = ap₂ then (h x y) (lex-same c d h l m)
