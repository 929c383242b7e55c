-- Size lists from the last to the first: the last one, and what stands before one.
use mathlib.Core.Path.{◌≡◌, refl, ap, sym, ◌∙◌, subst}
use mathlib.Core.Logic.{◌⊎◌, inl, inr}
use mathlib.Core.List.{List, [], ◌∷◌, map, reverse}
use mathlib.Core.Bool.{cond}
use mathlib.Core.Option
use mathlib.Core.Option.{Option, none, some}
use Prim.Native.Nat.{ℕ, zero, suc, ◌+◌, ◌-◌, ◌/◌, ◌≤◌, ◌<◌}
use native.Mathlib.Omega.{arith}
use lib.Dec.{leb, ltb}
use borrow.Author.Tests.{le-leb, lt-leb, leb-true, ltb-true, ltb-false}
use Rattle.lists.specs.Select.{gather, first, otherwise}
use Rattle.lists.proofs.Tests.{◌∈◌, by-test, either}
use Rattle.lists.proofs.Follow.{Within, within-head}
use Rattle.lists.proofs.Reversed.{last_within, reverse-neighbours, reverse-first, last-map, last-gather, within-reverse-map, within-reverse-gather}
use Rattle.patterns.specs.System.{first_sizes, size_lists}
use Rattle.system_theory.specs.StepBack.{lower_sizes, previous_sizes}
use Rattle.system_theory.proofs.Sizes.{Upward, upward_nil, upward_cons, upward-head, sum, of-first_sizes, first_sizes-first, after_last, after_one, sizes-none, sizes-some}

-- The last size list.

-- the list of n alone, and where n is 0 the empty list
abbrev alone : ℕ → List ℕ
alone zero = []
alone (suc n) = suc n ∷ []

alone-positive : (n : ℕ) → 0 < n → alone n ≡ n ∷ []
alone-positive zero h = absurd (omega arith)
alone-positive (suc n) h = refl

none_last : (k a n : ℕ) → n ≡ 0 → first (reverse (size_lists k a n)) ≡ some (alone n)
none_last k a n e = rw e (ap (λ l. first (reverse l)) (sizes-none k a))

-- with at most k numbers, the last size list is that of n alone
abbrev EndsAlone : ℕ → Type 0
EndsAlone k = (a n : ℕ) → 1 ≤ a → (n ≡ 0) ⊎ (a ≤ n) → n ≤ k → first (reverse (size_lists k a n)) ≡ some (alone n)

-- so each piece ends in its number and the rest
pieces-last : (k a n : ℕ) → EndsAlone k → 1 ≤ a → n ≤ suc k → (b : ℕ) → b ∈ first_sizes a n
    → first (reverse (map (b ∷◌) (size_lists k b (n - b)))) ≡ some (b ∷ alone (n - b))
pieces-last k a n e h i b m =
    let f = of-first_sizes a n m in
    let g : (n - b ≡ 0) ⊎ (b ≤ n - b) = either f.2 (λ q. inl (omega arith)) (λ q. inr (omega arith)) in
    last-map (b ∷◌) (size_lists k b (n - b))
    ∙ ap (Option.map (b ∷◌)) (e b (n - b) (omega (arith, f.0)) g (omega (arith, f.0)))

sizes-last : (k : ℕ) → EndsAlone k
sizes-last zero a n h i p = none_last zero a n (omega arith)
sizes-last (suc k) a n h i p =
    either i
    (λ e. none_last (suc k) a n e)
    (λ e.
    let z : n - n ≡ 0 = omega arith in
    ap (λ l. first (reverse l)) (sizes-some k a n (omega arith))
    ∙ last-gather (λ b. map (b ∷◌) (size_lists k b (n - b))) (λ b. b ∷ alone (n - b)) (first_sizes a n) (pieces-last k a n (sizes-last k) h p)
    ∙ ap (Option.map (λ b. b ∷ alone (n - b))) (last_within (after_last a n e))
    ∙ ap (λ m. some (n ∷ alone m)) z
    ∙ ap some (sym (alone-positive n (omega arith))))

-- What stands before a size list.

-- before n stands half of it, where that is allowed
before_last : (a n : ℕ) → 1 ≤ a → a ≤ n → Within n (reverse (first_sizes a n)) (cond (leb (a + a) n) (some (n / 2)) none)
before_last a n h i =
    by-test (leb (a + a) n)
    (λ t.
    let p = leb-true (a + a) n t in
    rw t (reverse-neighbours (rw (lt-leb (suc (n / 2) + suc (n / 2)) n (omega arith)) at (after_one a n (n / 2) h (omega arith) (omega arith)))))
    (λ t. rw t (reverse-first (first_sizes a n) (rw t at (first_sizes-first a n h i))))

-- before another one stands the number before, where that is allowed
before-one : (a n b : ℕ) → 1 ≤ a → a ≤ b → b + b ≤ n → Within b (reverse (first_sizes a n)) (cond (ltb a b) (some (b - 1)) none)
before-one a n b h i p =
    by-test (ltb a b)
    (λ t.
    let q = ltb-true a b t in
    let e : suc (b - 1) ≡ b = omega arith in
    rw t (reverse-neighbours (rw (e, le-leb (b + b) n p) at (after_one a n (b - 1) h (omega arith) (omega arith)))))
    (λ t.
    let q = ltb-false a b t in
    let e : a ≡ b = omega arith in
    rw t (reverse-first (first_sizes a n) ((rw (le-leb (a + a) n (omega arith)) at (first_sizes-first a n h (omega arith))) ∙ ap some e)))

-- what b and the numbers to its right give way to: what stands before b, and the rest alone
lower_sizes-is : (a b : ℕ) (l : List ℕ) → 1 ≤ a → a ≤ b → Upward b l
    → (q : Option ℕ) × (Within b (reverse (first_sizes a (b + sum l))) q) × (Option.map (λ c. c ∷ alone (b + sum l - c)) q ≡ lower_sizes a b l)
unfolding lower_sizes
lower_sizes-is a b [] h p u =
    let e : b + 0 ≡ b = omega arith in
    let f : b + 0 - b / 2 ≡ b - b / 2 = omega arith in (
      cond (leb (a + a) b) (some (b / 2)) none,
      rw e (before_last a b h p),
      by-test (leb (a + a) b)
          (λ t. rw t (ap (λ m. some (b / 2 ∷ m)) (ap alone f ∙ alone-positive (b - b / 2) (omega arith))))
          (λ t. rw t),
    )
lower_sizes-is a b (t ∷ l) h p u = (
  cond (ltb a b) (some (b - 1)) none,
  before-one a (b + sum (t ∷ l)) b h p (omega (arith, upward-head u)),
  by-test (ltb a b)
      (λ i. let q = ltb-true a b i in
      let f : b + sum (t ∷ l) - (b - 1) ≡ suc (sum (t ∷ l)) = omega arith in
      rw i (ap (λ m. some ((b - 1) ∷ alone m)) f))
      (λ i. rw i),
)

-- one number more in front
back-longer : (k a b : ℕ) (l : List ℕ) → 1 ≤ a → a ≤ b → b + sum l ≤ suc k → Upward b l → Within l (reverse (size_lists k b (b + sum l - b))) (previous_sizes b l)
    → Within (b ∷ l) (reverse (gather (λ c. map (c ∷◌) (size_lists k c (b + sum l - c))) (first_sizes a (b + sum l)))) (previous_sizes a (b ∷ l))
unfolding previous_sizes
back-longer k a b l h p i u w =
    let n : ℕ = b + sum l in
    let f = lower_sizes-is a b l h p u in
    subst (λ r. Within (b ∷ l) (reverse (gather (λ c. map (c ∷◌) (size_lists k c (n - c))) (first_sizes a n))) (otherwise (Option.map (b ∷◌) (previous_sizes b l)) r)) f.2
    (within-reverse-gather (λ c. map (c ∷◌) (size_lists k c (n - c))) (λ c. c ∷ alone (n - c)) (pieces-last k a n (sizes-last k) h i) f.1
    (within-reverse-map (b ∷◌) (size_lists k b (n - b)) w))

-- what stands before a size list is the one before by the closed step
pub sizes-back : (k a : ℕ) {l : List ℕ} → 1 ≤ a → Upward a l → sum l ≤ k → Within l (reverse (size_lists k a (sum l))) (previous_sizes a l)
unfolding previous_sizes
sizes-back k a h upward_nil i = subst (λ m. Within [] (reverse m) none) (sym (sizes-none k a)) (within-head [] [])
sizes-back zero a h (upward_cons p u) i = absurd (omega arith)
sizes-back (suc k) a h (upward_cons {b = b} {l = l} p u) i =
    let z : b + sum l - b ≡ sum l = omega arith in
    subst (λ m. Within (b ∷ l) (reverse m) (previous_sizes a (b ∷ l))) (sym (sizes-some k a (b + sum l) (omega arith)))
    (back-longer k a b l h p i u (subst (λ n. Within l (reverse (size_lists k b n)) (previous_sizes b l)) (sym z) (sizes-back k b (omega arith) u (omega arith))))
