-- Lists of numbers below a bound, and the length of gathered lists.
use mathlib.Core.Path.{◌≡◌, refl, ap, sym, ◌∙◌}
use mathlib.Core.Bool.{Bool, true}
use mathlib.Core.List.{List, [], ◌∷◌, ◌++◌}
use Prim.Native.Nat.{ℕ, suc, ◌≤◌, ◌<◌}
use native.Mathlib.Omega.{arith}
use lib.Dec.{ltb}
use lib.ListN.{length, take, drop, get_or, length-append, take-append-drop}
use borrow.Author.Tests.{lt-ltb, ltb-true}
use Rattle.lists.specs.Select.{each, gather}
use Rattle.lists.proofs.Tests.{each-cons, each-head, each_tail}
use Rattle.lists.proofs.Members.{gather_append}

-- every number of l is below k
abbrev pub all_below : ℕ → List ℕ → Bool
all_below k l = each (λ y. ltb y k) l

pub below-cons : (k x : ℕ) (l : List ℕ) → x < k → all_below k l ≡ true → all_below k (x ∷ l) ≡ true
below-cons k x l h e = each-cons (λ y. ltb y k) l (lt-ltb x k h) e

pub below-head : (k x : ℕ) (l : List ℕ) → all_below k (x ∷ l) ≡ true → x < k
below-head k x l e = ltb-true x k (each-head (λ y. ltb y k) x l e)

pub below-tail : (k x : ℕ) (l : List ℕ) → all_below k (x ∷ l) ≡ true → all_below k l ≡ true
below-tail k x l e = each_tail (λ y. ltb y k) x l e

pub below-append : (k : ℕ) (l m : List ℕ) → all_below k l ≡ true → all_below k m ≡ true → all_below k (l ++ m) ≡ true
below-append k [] m e f = f
below-append k (x ∷ l) m e f = below-cons k x (l ++ m) (below-head k x l e) (below-append k l m (below-tail k x l e) f)

-- from a bound at every place
pub below_at : (k : ℕ) (l : List ℕ) → ((i : ℕ) → i < length l → get_or l i 0 < k) → all_below k l ≡ true
below_at k [] h = refl
below_at k (x ∷ l) h = below-cons k x l (h 0 (omega arith)) (below_at k l (λ i g. h (suc i) (omega arith)))

-- what the first entries give is no longer than what all give
pub gather-within : {A B : Type 0} (f : A → List B) (i : ℕ) (l : List A) → length (gather f (take i l)) ≤ length (gather f l)
gather-within f i l =
    let cut : gather f l ≡ gather f (take i l) ++ gather f (drop i l) = ap (gather f) (sym (take-append-drop i l)) ∙ gather_append f (take i l) (drop i l) in
    omega (arith, ap length cut, length-append (gather f (take i l)) (gather f (drop i l)))
