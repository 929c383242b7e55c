-- Size lists, the nondecreasing lists of numbers with a given sum: which they are, that they rise lexicographically, the first one, and what follows one.
use mathlib.Core.Path.{◌≡◌, refl, ap, ap₂, sym, ◌∙◌, subst}
use mathlib.Core.Logic.{◌⊎◌, inl, inr}
use mathlib.Core.List.{List, [], ◌∷◌, ◌++◌, map}
use mathlib.Core.Bool.{Bool, true, false, cond, ◌||◌}
use mathlib.Core.Option
use mathlib.Core.Option.{none, some}
use Prim.Native.Nat.{ℕ, zero, suc, ◌+◌, ◌-◌, ◌≤◌, ◌<◌, compare}
use native.Mathlib.Omega.{arith}
use lib.Dec.{leb, eqb}
use borrow.Author.Tests.{le-leb, lt-leb, leb-true, leb-false, eq-eqb, ne_eqb, eqb-true}
use Rattle.lists.specs.Order.{lex}
use Rattle.lists.specs.Select.{keep, gather, total, range, first}
use Rattle.lists.proofs.Tests.{◌∈◌, by-test, either, or-true}
use Rattle.lists.proofs.Comparison.{compare_self}
use Rattle.lists.proofs.Lex.{lex-cons-lt, lex-cons-eq}
use Rattle.lists.proofs.Members.{in_head, in-cons-cases, in-single, not-in-nil, in_list, in-keep, of-keep, in-range, of_range, in_map, of_map, in-gather, of-gather, keep_append}
use Rattle.lists.proofs.Places.{range-append}
use Rattle.lists.proofs.Rising.{Rising, rising_nil, rising-single, rising-keep, rising-range, rising-map, rising-gather-rising}
use Rattle.lists.proofs.Follow.{Within, first_map, first-gather, within-head, within-map, within-gather}
use Rattle.patterns.specs.System.{first_sizes, size_lists}
use Rattle.system_theory.specs.Step.{least_sizes, next_sizes}

-- no number is less than the one before it, where a stands before all
pub data Upward : ℕ → List ℕ → Type 0 where
  upward_nil : {a : ℕ} → Upward a []
  upward_cons : {a b : ℕ} {l : List ℕ} → a ≤ b → Upward b l → Upward a (b ∷ l)

abbrev pub sum : List ℕ → ℕ
sum l = total (λ b. b) l

pub upward-head : {a b : ℕ} {l : List ℕ} → Upward a (b ∷ l) → a ≤ b
upward-head (upward_cons h u) = h

pub upward-tail : {a b : ℕ} {l : List ℕ} → Upward a (b ∷ l) → Upward b l
upward-tail (upward_cons h u) = u

-- a lower bound may be lowered
pub upward-from : {a b : ℕ} {l : List ℕ} → a ≤ b → Upward b l → Upward a l
upward-from h upward_nil = upward_nil
upward-from {a} h (upward_cons {b = c} k u) = let i : a ≤ c = omega arith in upward_cons i u

-- it is one of every number
pub upward-member : {a x : ℕ} {l : List ℕ} → Upward a l → x ∈ l → a ≤ x
upward-member upward_nil m = not-in-nil m
upward-member (upward_cons h u) m = either (in-cons-cases m) (λ e. omega arith) (λ i. omega (arith, upward-member u i))

or_right : (a b : Bool) → b ≡ true → (a || b) ≡ true
or_right true b e = refl
or_right false b e = e

-- b can be the first number of a nondecreasing list with sum n
abbrev begins : ℕ → ℕ → Bool
begins n b = eqb b n || leb (b + b) n

begins-in : (n b : ℕ) → (b ≡ n) ⊎ (b + b ≤ n) → begins n b ≡ true
begins-in n b k = either k (λ e. rw (eq-eqb b n e)) (λ e. or_right (eqb b n) (leb (b + b) n) (le-leb (b + b) n e))

begins-out : (n b : ℕ) → begins n b ≡ true → (b ≡ n) ⊎ (b + b ≤ n)
begins-out n b e = either (or-true (eqb b n) (leb (b + b) n) e) (λ t. inl (eqb-true b n t)) (λ t. inr (leb-true (b + b) n t))

-- the numbers that a size list can begin with
pub in-first_sizes : (a n : ℕ) {b : ℕ} → a ≤ b → (b ≡ n) ⊎ (b + b ≤ n) → b ∈ first_sizes a n
unfolding first_sizes
in-first_sizes a n {b} h k =
    let le : b ≤ n = either k (λ e. omega arith) (λ e. omega arith) in
    in-keep (begins n) (in-range a (suc n - a) h (omega arith)) (begins-in n b k)

pub of-first_sizes : (a n : ℕ) {b : ℕ} → b ∈ first_sizes a n → (a ≤ b) × (b ≤ n) × ((b ≡ n) ⊎ (b + b ≤ n))
unfolding first_sizes
of-first_sizes a n {b} m =
    let r = of-keep (begins n) (range a (suc n - a)) m in
    let s = of_range a (suc n - a) r.0 in
    (s.0, omega (arith, s.0, s.1), begins-out n b r.1)

pub first_sizes-rise : (a n : ℕ) → Rising compare (first_sizes a n)
unfolding first_sizes
first_sizes-rise a n = rising-keep (begins n) (rising-range a (suc n - a))

-- from c on, the first is c while twice c is at most n, and then n
firsts : (k c n : ℕ) → 1 ≤ c → c + suc k ≡ suc n → first (keep (begins n) (range c (suc k))) ≡ some (cond (leb (c + c) n) c n)
firsts zero c n h e =
    let q : c ≡ n = omega arith in
    rw (begins-in n c (inl q), lt-leb (c + c) n (omega arith)) (ap some q)
firsts (suc k) c n h e =
    by-test (leb (c + c) n)
    (λ t. rw (begins-in n c (inr (leb-true (c + c) n t)), t))
    (λ t.
    let u = leb-false (c + c) n t in
    rw (ne_eqb c n (λ q. omega arith), t)
    (firsts k (suc c) n (omega arith) (omega arith) ∙ rw (lt-leb (suc c + suc c) n (omega arith))))

pub sizes-none : (k a : ℕ) → size_lists k a 0 ≡ [] ∷ []
unfolding size_lists
sizes-none zero a = refl
sizes-none (suc k) a = refl

pub sizes-some : (k a n : ℕ) → 0 < n → size_lists (suc k) a n ≡ gather (λ b. map (b ∷◌) (size_lists k b (n - b))) (first_sizes a n)
unfolding size_lists
sizes-some k a n h = rw (ne_eqb n 0 (λ e. omega arith))

-- every size list is nondecreasing, from a on, with sum n
pub sizes-sound : (k a n : ℕ) {l : List ℕ} → l ∈ size_lists k a n → (Upward a l) × (sum l ≡ n)
unfolding size_lists
sizes-sound zero a n {l} m =
    by-test (eqb n 0)
    (λ t. rw (in-single (rw t at m)) (upward_nil, sym (eqb-true n 0 t)))
    (λ t. not-in-nil (rw t at m))
sizes-sound (suc k) a n {l} m =
    by-test (eqb n 0)
    (λ t. rw (in-single (rw t at m)) (upward_nil, sym (eqb-true n 0 t)))
    (λ t.
    let r = of-gather (λ b. map (b ∷◌) (size_lists k b (n - b))) (first_sizes a n) (rw t at m) in
    let b : ℕ = r.0 in
    let s = of_map (b ∷◌) (size_lists k b (n - b)) r.2 in
    let i = sizes-sound k b (n - b) {l = s.0} s.1 in
    let f = of-first_sizes a n r.1 in
    rw s.2 (upward_cons {l = s.0} f.0 i.0, omega (arith, i.1, f.1)))

-- every such list is there, where k is large enough
pub sizes-complete : (k a : ℕ) {l : List ℕ} → 1 ≤ a → Upward a l → sum l ≤ k → l ∈ size_lists k a (sum l)
sizes-complete k a h upward_nil i = rw (sizes-none k a) in_head
sizes-complete zero a h (upward_cons k u) i = absurd (omega arith)
sizes-complete (suc k) a h (upward_cons {b = b} {l = l} p u) i =
    rw (sizes-some k a (b + sum l) (omega arith))
    (in-gather (λ c. map (c ∷◌) (size_lists k c (b + sum l - c))) {x = b} (in-first_sizes a (b + sum l) p (beginning l u))
    (in_map (b ∷◌) (in_list (ap (size_lists k b) (let e : sum l ≡ b + sum l - b = omega arith in e)) (sizes-complete k b (omega arith) u (omega arith)))))
  where
    beginning : (l : List ℕ) → Upward b l → (b ≡ b + sum l) ⊎ (b + b ≤ b + sum l)
    beginning [] u = inl (omega arith)
    beginning (c ∷ l) u = inr (omega (arith, upward-head u))

-- in lexicographic order
pub sizes-rise : (k a n : ℕ) → Rising (lex compare) (size_lists k a n)
unfolding size_lists
sizes-rise zero a n = by-test (eqb n 0) (λ t. rw t (rising-single [])) (λ t. rw t rising_nil)
sizes-rise (suc k) a n =
    by-test (eqb n 0)
    (λ t. rw t (rising-single []))
    (λ t. rw t
    (rising-gather-rising (λ b. map (b ∷◌) (size_lists k b (n - b))) (first_sizes-rise a n)
    (λ b c i j h u v p q.
    let r = of_map (b ∷◌) (size_lists k b (n - b)) p in
    let s = of_map (c ∷◌) (size_lists k c (n - c)) q in
    ap₂ (lex compare) r.2 s.2 ∙ lex-cons-lt compare b c r.0 s.0 h)
    (λ b i. rising-map (b ∷◌) (λ l m p q h. lex-cons-eq compare b b l m (compare_self b) ∙ h) (sizes-rise k b (n - b)))))

-- The first size list.

pub least-alone : (k v n : ℕ) → n < v + v → least_sizes k v n ≡ n ∷ []
unfolding least_sizes
least-alone zero v n h = refl
least-alone (suc k) v n h = rw (lt-leb (v + v) n h)

-- fuel that is enough makes no difference
pub least-fuel : (j k v n : ℕ) → 1 ≤ v → n ≤ j → n ≤ k → least_sizes j v n ≡ least_sizes k v n
unfolding least_sizes
least-fuel zero k v n h i p = sym (least-alone k v n (omega arith))
least-fuel (suc j) zero v n h i p = least-alone (suc j) v n (omega arith)
least-fuel (suc j) (suc k) v n h i p =
    by-test (leb (v + v) n)
    (λ t. let u = leb-true (v + v) n t in rw t (ap (λ l. v ∷ l) (least-fuel j k v (n - v) h (omega arith) (omega arith))))
    (λ t. rw t)

pub least_more : (v n : ℕ) → 1 ≤ v → v + v ≤ n → least_sizes n v n ≡ v ∷ least_sizes (n - v) v (n - v)
unfolding least_sizes
least_more v zero h i = absurd (omega arith)
least_more v (suc m) h i = rw (le-leb (v + v) (suc m) i) (ap (λ l. v ∷ l) (least-fuel m (suc m - v) v (suc m - v) h (omega arith) (omega arith)))

-- the first of the size lists that begin with b
piece-first : (k n b : ℕ) → 1 ≤ b → (b ≡ n) ⊎ (b + b ≤ n) → (b ≤ n - b → first (size_lists k b (n - b)) ≡ some (least_sizes (n - b) b (n - b)))
    → first (map (b ∷◌) (size_lists k b (n - b))) ≡ some (least_sizes n b n)
piece-first k n b h c f =
    either c
    (λ e. let z : n - b ≡ 0 = omega arith in
    rw (z, sizes-none k b, least-alone n b n (omega arith)) (ap (λ x. some (x ∷ [])) e))
    (λ e. first_map (b ∷◌) (size_lists k b (n - b)) ∙ ap (Option.map (b ∷◌)) (f (omega arith)) ∙ ap some (sym (least_more b n h e)))

pub first_sizes-first : (a n : ℕ) → 1 ≤ a → a ≤ n → first (first_sizes a n) ≡ some (cond (leb (a + a) n) a n)
unfolding first_sizes
first_sizes-first a n h i =
    let e : suc n - a ≡ suc (n - a) = omega arith in
    rw e (firsts (n - a) a n h (omega arith))

-- the first of all is the least list
pub sizes-first : (k a n : ℕ) → 1 ≤ a → a ≤ n → n ≤ k → first (size_lists k a n) ≡ some (least_sizes n a n)
sizes-first zero a n h i p = absurd (omega arith)
sizes-first (suc k) a n h i p =
    ap first (sizes-some k a n (omega arith))
    ∙ first-gather (λ b. map (b ∷◌) (size_lists k b (n - b))) (λ b. least_sizes n b n) (first_sizes a n)
    (λ b m.
    let f = of-first_sizes a n m in
    let l : 1 ≤ b = omega (arith, f.0) in
    piece-first k n b l f.2 (λ le. sizes-first k b (n - b) l le (omega arith)))
    ∙ ap (Option.map (λ b. least_sizes n b n)) (first_sizes-first a n h i)
    ∙ by-test (leb (a + a) n)
    (λ t. rw t)
    (λ t. rw (t, least-alone n n n (omega arith), least-alone n a n (leb-false (a + a) n t)))

-- What follows a size list.

first_sizes-cut : (a n b : ℕ) → a ≤ b → (b ≡ n) ⊎ (b + b ≤ n)
    → first_sizes a n ≡ keep (begins n) (range a (b - a)) ++ (b ∷ keep (begins n) (range (suc b) (n - b)))
unfolding first_sizes
first_sizes-cut a n b h c =
    let i : b ≤ n = either c (λ e. omega arith) (λ e. omega arith) in
    let e : suc n - a ≡ (b - a) + suc (n - b) = omega arith in
    let f : a + (b - a) ≡ b = omega arith in
    ap (keep (begins n)) (ap (range a) e ∙ range-append a (b - a) (suc (n - b)) ∙ ap (λ x. range a (b - a) ++ range x (suc (n - b))) f)
    ∙ keep_append (begins n) (range a (b - a)) (b ∷ range (suc b) (n - b))
    ∙ rw (begins-in n b c)

-- n is the last number to begin with
pub after_last : (a n : ℕ) → a ≤ n → Within n (first_sizes a n) none
after_last a n h =
    let z : n - n ≡ 0 = omega arith in
    record {
      before = keep (begins n) (range a (n - a));
      after = keep (begins n) (range (suc n) (n - n));
      cut = first_sizes-cut a n n h (inl refl);
      follows = rw z;
    }

-- after another one comes the next number while twice that is at most n, and then n
pub after_one : (a n b : ℕ) → 1 ≤ a → a ≤ b → b + b ≤ n → Within b (first_sizes a n) (some (cond (leb (suc b + suc b) n) (suc b) n))
after_one a n b h i p =
    let z : n - b ≡ suc (n - suc b) = omega arith in
    record {
      before = keep (begins n) (range a (b - a));
      after = keep (begins n) (range (suc b) (n - b));
      cut = first_sizes-cut a n b i (inr p);
      follows = rw z (sym (firsts (n - suc b) (suc b) n (omega arith) (omega arith)));
    }

next-some : (a b : ℕ) (l : List ℕ) → (m : List ℕ) × (next_sizes (a ∷ b ∷ l) ≡ some m)
unfolding next_sizes
next-some a b [] = (least_sizes (a + b) (suc a) (a + b), refl)
next-some a b (c ∷ l) = let r = next-some b c l in (a ∷ r.0, ap (Option.map (a ∷◌)) r.1)

-- each piece starts with the least list from its number on
pieces-first : (k a n : ℕ) → 1 ≤ a → n ≤ suc k → (b : ℕ) → b ∈ first_sizes a n → first (map (b ∷◌) (size_lists k b (n - b))) ≡ some (least_sizes n b n)
pieces-first k a n h i b m =
    let f = of-first_sizes a n m in
    let l : 1 ≤ b = omega (arith, f.0) in
    piece-first k n b l f.2 (λ le. sizes-first k b (n - b) l le (omega arith))

-- one number more in front
within-longer : (k a b : ℕ) (l : List ℕ) → 1 ≤ a → a ≤ b → b + sum l ≤ suc k → Upward b l → Within l (size_lists k b (b + sum l - b)) (next_sizes l)
    → Within (b ∷ l) (gather (λ c. map (c ∷◌) (size_lists k c (b + sum l - c))) (first_sizes a (b + sum l))) (next_sizes (b ∷ l))
unfolding next_sizes
within-longer k a b [] h p i u w =
    let e : b + 0 ≡ b = omega arith in
    let v : Within b (first_sizes a (b + 0)) none = rw e (after_last a b p) in
    within-gather (λ c. map (c ∷◌) (size_lists k c (b + 0 - c))) (λ c. least_sizes (b + 0) c (b + 0)) (pieces-first k a (b + 0) h i) v (within-map (b ∷◌) w)
within-longer k a b (c ∷ []) h p i u w =
    let n : ℕ = b + (c + 0) in
    let q : b ≤ c = upward-head u in
    let e : b + c ≡ n = omega arith in
    let f : least_sizes n (cond (leb (suc b + suc b) n) (suc b) n) n ≡ least_sizes (b + c) (suc b) (b + c) =
    rw e (by-test (leb (suc b + suc b) n) (λ t. rw t) (λ t. rw (t, least-alone n n n (omega arith), least-alone n (suc b) n (leb-false (suc b + suc b) n t)))) in
    rw (← f) (within-gather (λ c. map (c ∷◌) (size_lists k c (n - c))) (λ c. least_sizes n c n) (pieces-first k a n h i) (after_one a n b h p (omega arith)) (within-map (b ∷◌) w))
within-longer k a b (c ∷ d ∷ l) h p i u w =
    let n : ℕ = b + (c + (d + sum l)) in
    let q : b ≤ c = upward-head u in
    let r = next-some c d l in
    let g = within-gather (λ c. map (c ∷◌) (size_lists k c (n - c))) (λ c. least_sizes n c n) (pieces-first k a n h i) (after_one a n b h p (omega arith)) (within-map (b ∷◌) (rw r.1 at w)) in
    rw r.1 g

-- what follows a size list is the next one by the closed step
pub sizes-within : (k a : ℕ) {l : List ℕ} → 1 ≤ a → Upward a l → sum l ≤ k → Within l (size_lists k a (sum l)) (next_sizes l)
unfolding next_sizes
sizes-within k a h upward_nil i = rw (sizes-none k a) (within-head [] [])
sizes-within zero a h (upward_cons p u) i = absurd (omega arith)
sizes-within (suc k) a h (upward_cons {b = b} {l = l} p u) i =
    let z : b + sum l - b ≡ sum l = omega arith in
    rw (sizes-some k a (b + sum l) (omega arith))
    (within-longer k a b l h p i u (subst (λ n. Within l (size_lists k b n) (next_sizes l)) (sym z) (sizes-within k b (omega arith) u (omega arith))))
