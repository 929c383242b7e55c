-- Totals over a list, and permutations: two lists hold the same entries, each as often, if every weight has the same total over both.
use mathlib.Core.Path.{◌≡◌, refl, ap, ap₂, sym, ◌∙◌}
use mathlib.Core.Bool.{Bool, true, cond}
use mathlib.Core.List.Memᴰ
use mathlib.Core.List.{List, [], ◌∷◌, ◌++◌, map}
use Prim.Native.Nat.{ℕ, ◌+◌, ◌*◌, ◌≤◌, ◌<◌, Ordering}
use native.Mathlib.Nat.{mul-zero, mul-add}
use native.Mathlib.Omega.{arith}
use lib.Dec.{leb}
use borrow.Author.Tests.{leb-true, leb-false}
use lib.ListN.{length}
use Rattle.lists.specs.Order.{same}
use Rattle.lists.specs.Select.{keep, each, gather, total}
use Rattle.lists.proofs.Tests.{by-test, same_tests, each-cons, each-head, each_tail, ◌∈◌}
use Rattle.lists.proofs.Comparison.{Lawful, same_true, same_self}

module _ {A : Type 0} where
  pub total-append : (g : A → ℕ) (l m : List A) → total g (l ++ m) ≡ total g l + total g m
  total-append g [] m = omega arith
  total-append g (x ∷ l) m = omega (arith, total-append g l m)

  -- the total of ones is the length
  pub total-one : (l : List A) → total (λ x. 1) l ≡ length l
  total-one [] = refl
  total-one (x ∷ l) = omega (arith, total-one l)

  pub total-zero : (l : List A) → total (λ x. 0) l ≡ 0
  total-zero [] = refl
  total-zero (x ∷ l) = omega (arith, total-zero l)

  pub total-add : (f g : A → ℕ) (l : List A) → total (λ x. f x + g x) l ≡ total f l + total g l
  total-add f g [] = refl
  total-add f g (x ∷ l) = omega (arith, total-add f g l)

  -- functions that agree on every member have the same total
  pub total-same : (f g : A → ℕ) (l : List A) → ((x : A) → x ∈ l → f x ≡ g x) → total f l ≡ total g l
  total-same f g [] h = refl
  total-same f g (x ∷ l) h = ap₂ ◌+◌ (h x (Memᴰ.head refl)) (total-same f g l (λ y m. h y (Memᴰ.tail m)))

  -- the greater function has the greater total
  pub total_mono : (f g : A → ℕ) (l : List A) → ((x : A) → x ∈ l → f x ≤ g x) → total f l ≤ total g l
  total_mono f g [] h = omega arith
  total_mono f g (x ∷ l) h = omega (arith, h x (Memᴰ.head refl), total_mono f g l (λ y m. h y (Memᴰ.tail m)))

  -- no member weighs more than all
  pub member-total : (g : A → ℕ) {x : A} {l : List A} → x ∈ l → g x ≤ total g l
  member-total g (Memᴰ.head q) = omega (arith, ap g q)
  member-total g (Memᴰ.tail m) = omega (arith, member-total g m)

  -- the total over the kept entries: the others weigh nothing
  pub total-keep : (g : A → ℕ) (p : A → Bool) (l : List A) → total g (keep p l) ≡ total (λ x. cond (p x) (g x) 0) l
  total-keep g p [] = refl
  total-keep g p (x ∷ l) =
      by-test (p x)
      (λ e. rw e (omega (arith, total-keep g p l)))
      (λ e. rw e (omega (arith, total-keep g p l)))

  -- a total that is not zero has a member that weighs something
  pub total-some : (g : A → ℕ) (l : List A) → 0 < total g l → (x : A) × (x ∈ l) × (0 < g x)
  total-some g [] h = absurd (omega arith)
  total-some g (x ∷ l) h =
      by-test (leb (g x) 0)
      (λ e. let k = leb-true (g x) 0 e in
      let r = total-some g l (omega arith) in
      (r.0, Memᴰ.tail r.1, r.2))
      (λ e. (x, Memᴰ.head refl, leb-false (g x) 0 e))

  pub total-scale : (k : ℕ) (g : A → ℕ) (l : List A) → total (λ x. k * g x) l ≡ k * total g l
  total-scale k g [] = sym (mul-zero k)
  total-scale k g (x ∷ l) = ap (λ t. k * g x + t) (total-scale k g l) ∙ sym (mul-add k (g x) (total g l))

  -- how many entries pass
  pub length-keep : (p : A → Bool) (l : List A) → length (keep p l) ≡ total (λ x. cond (p x) 1 0) l
  length-keep p l = sym (total-one (keep p l)) ∙ total-keep (λ x. 1) p l

pub total-map : {A B : Type 0} (g : B → ℕ) (f : A → B) (l : List A) → total g (map f l) ≡ total (λ x. g (f x)) l
total-map g f [] = refl
total-map g f (x ∷ l) = ap (λ t. g (f x) + t) (total-map g f l)

pub total-gather : {A B : Type 0} (g : B → ℕ) (f : A → List B) (l : List A) → total g (gather f l) ≡ total (λ x. total g (f x)) l
total-gather g f [] = refl
total-gather g f (x ∷ l) = omega (arith, total-append g (f x) (gather f l), total-gather g f l)

-- by rows or by columns
pub total-swap : {A B : Type 0} (g : A → B → ℕ) (l : List A) (m : List B) → total (λ x. total (g x) m) l ≡ total (λ y. total (λ x. g x y) l) m
total-swap g [] m = sym (total-zero m)
total-swap g (x ∷ l) m = ap (λ t. total (g x) m + t) (total-swap g l m) ∙ sym (total-add (g x) (λ y. total (λ z. g z y) l) m)

-- l and m hold the same entries, each as often
pub record Perm {A : Type 0} (l m : List A) : Type 0 where
  pub totals : (g : A → ℕ) → total g l ≡ total g m

module _ {A : Type 0} where
  pub perm-refl : {l : List A} → Perm l l
  perm-refl = record { totals = λ g. refl }

  pub perm-path : {l m : List A} → l ≡ m → Perm l m
  perm-path e = record { totals = λ g. ap (total g) e }

  pub perm-sym : {l m : List A} → Perm l m → Perm m l
  perm-sym p = record { totals = λ g. sym (p.totals g) }

  pub perm-trans : {l m n : List A} → Perm l m → Perm m n → Perm l n
  perm-trans p q = record { totals = λ g. p.totals g ∙ q.totals g }

  pub perm-cons : (x : A) {l m : List A} → Perm l m → Perm (x ∷ l) (x ∷ m)
  perm-cons x p = record { totals = λ g. ap (λ t. g x + t) (p.totals g) }

  -- a common first entry may be left out
  pub perm-tail : {x : A} {l m : List A} → Perm (x ∷ l) (x ∷ m) → Perm l m
  perm-tail {x} p = record { totals = λ g. omega (arith, p.totals g) }

  pub perm-swap : (x y : A) (l : List A) → Perm (x ∷ y ∷ l) (y ∷ x ∷ l)
  perm-swap x y l = record { totals = λ g. omega arith }

  -- an entry moved to the front
  pub perm-front : {x : A} {l : List A} → x ∈ l → (m : List A) × Perm l (x ∷ m)
  perm-front {x = x} {l = []} x3 = elim x3 [ ]
  perm-front {l = y ∷ l} (Memᴰ.head q) = (l, perm-path (ap (λ z. z ∷ l) (sym q)))
  perm-front {x} {l = y ∷ l} (Memᴰ.tail m) =
      let r = perm-front m in
      (y ∷ r.0, perm-trans (perm-cons y r.1) (perm-swap y x r.0))

  pub perm-cancel : (a : List A) {l m : List A} → Perm (a ++ l) (a ++ m) → Perm l m
  perm-cancel a {l} {m} p = record { totals = λ g. omega (arith, total-append g a l, total-append g a m, p.totals g) }

  pub perm-append : {l m l' m' : List A} → Perm l m → Perm l' m' → Perm (l ++ l') (m ++ m')
  perm-append {l} {m} {l'} {m'} p q =
      record { totals = λ g. omega (arith, total-append g l l', total-append g m m', p.totals g, q.totals g) }

  pub perm_append_comm : (l m : List A) → Perm (l ++ m) (m ++ l)
  perm_append_comm l m = record { totals = λ g. omega (arith, total-append g l m, total-append g m l) }

  pub perm-length : {l m : List A} → Perm l m → length l ≡ length m
  perm-length {l} {m} p = omega (arith, total-one l, total-one m, p.totals (λ x. 1))

  -- the entries that pass are permuted
  pub perm-keep : (p : A → Bool) {l m : List A} → Perm l m → Perm (keep p l) (keep p m)
  perm-keep p {l} {m} q = record { totals = λ g. total-keep g p l ∙ q.totals (λ x. cond (p x) (g x) 0) ∙ sym (total-keep g p m) }

  -- `each` as a total: no entry fails
  fails : (A → Bool) → A → ℕ
  fails p x = cond (p x) 0 1

  each_none : (p : A → Bool) (l : List A) → each p l ≡ true → total (fails p) l ≡ 0
  unfolding fails
  each_none p [] e = refl
  each_none p (x ∷ l) e = rw (each-head p x l e) (omega (arith, each_none p l (each_tail p x l e)))

  none_each : (p : A → Bool) (l : List A) → total (fails p) l ≡ 0 → each p l ≡ true
  unfolding fails
  none_each p [] e = refl
  none_each p (x ∷ l) e =
      by-test (p x)
      (λ t. each-cons p l t (none_each p l (omega (arith, e))))
      (λ f. let k = rw f at e in absurd (omega arith))

  -- what holds of every entry holds of every entry of a permutation
  pub perm-each : (p : A → Bool) {l m : List A} → Perm l m → each p l ≡ true → each p m ≡ true
  perm-each p {l} {m} q e = none_each p m (sym (q.totals (fails p)) ∙ each_none p l e)

  pub perm-each-same : (p : A → Bool) {l m : List A} → Perm l m → each p l ≡ each p m
  perm-each-same p {l} {m} q = same_tests (each p l) (each p m) (perm-each p q) (perm-each p (perm-sym q))

  module _ {c : A → A → Ordering} (w : Lawful c) where
    -- a member is a member of every permutation
    pub perm-member : {x : A} {l m : List A} → Perm l m → x ∈ l → x ∈ m
    perm-member {x} {l} {m} p h =
        let g : A → ℕ = λ y. cond (same c x y) 1 0 in
        let one : g x ≡ 1 = ap (λ t. cond t 1 0) (same_self w x) in
        let r = total-some g m (omega (arith, member-total g h, p.totals g)) in
        by-test (same c x r.0)
        (λ e. Memᴰ.cast (same_true w x r.0 e) r.1)
        (λ e. let k = rw e at r.2 in absurd (omega arith))

pub perm-map : {A B : Type 0} (f : A → B) {l m : List A} → Perm l m → Perm (map f l) (map f m)
perm-map f {l} {m} p = record { totals = λ g. total-map g f l ∙ p.totals (λ x. g (f x)) ∙ sym (total-map g f m) }

-- joined lists are permuted if the lists that are joined change places
pub perm-gather : {A B : Type 0} (f : A → List B) {l m : List A} → Perm l m → Perm (gather f l) (gather f m)
perm-gather f {l} {m} p = record { totals = λ g. total-gather g f l ∙ p.totals (λ x. total g (f x)) ∙ sym (total-gather g f m) }

-- joined lists are permuted if each of them is
pub perm-gather-each : {A B : Type 0} (f g : A → List B) (l : List A) → ((x : A) → x ∈ l → Perm (f x) (g x)) → Perm (gather f l) (gather g l)
perm-gather-each f g l h =
    record { totals = λ k. total-gather k f l ∙ total-same (λ x. total k (f x)) (λ x. total k (g x)) l (λ x m. (h x m).totals k) ∙ sym (total-gather k g l) }

-- the places of f x and g x in joined lists
pub perm-gather-append : {A B : Type 0} (f g : A → List B) (l : List A) → Perm (gather (λ x. f x ++ g x) l) (gather f l ++ gather g l)
perm-gather-append f g [] = perm-refl
perm-gather-append f g (x ∷ l) =
    record {
      totals = λ k.
          omega (
            arith,
            total-append k (f x ++ g x) (gather (λ y. f y ++ g y) l),
            total-append k (f x) (g x),
            total-append k (f x ++ gather f l) (g x ++ gather g l),
            total-append k (f x) (gather f l),
            total-append k (g x) (gather g l),
            total-append k (gather f l) (gather g l),
            (perm-gather-append f g l).totals k,
          );
    }
