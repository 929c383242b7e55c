-- How many rotations of a component equal it: as many as the least number of turns that gives it back goes into its number of trees.
use mathlib.Core.Path.{◌≡◌, refl, ap, sym, ◌∙◌}
use mathlib.Core.Bool.{true, true≢false}
use mathlib.Core.List.{List, [], ◌∷◌, ◌++◌, append_assoc, append-nil}
use Prim.Native.Nat.{ℕ, zero, suc, ◌+◌, ◌-◌, ◌*◌, ◌/◌, ◌%◌, ◌≤◌, ◌<◌, Ordering}
use native.Mathlib.Nat.{zero-add, suc-add, zero-mul, suc-mul, le-mul_of_pos_right, mod-lt, div-add-mod'}
use native.Mathlib.Omega.{arith}
use lib.Dec.{leb}
use lib.ListN.{length, length-append}
use borrow.Author.Tests.{leb-true, leb-false}
use Rattle.lists.specs.Order.{same}
use Rattle.lists.specs.Select.{keep}
use Rattle.lists.proofs.Tests.{◌∈◌, by-test, either, no_both}
use Rattle.lists.proofs.Comparison.{Lawful, same_true, same_self, same-of-path, same-of-apart}
use Rattle.lists.proofs.Members.{in-cons-cases, not-in-nil, keep-none, keep_append}
use Rattle.patterns.specs.Component.{Component, turn, first_rotations, compare_component, rotation_symmetry, nonempty}
use Rattle.patterns.proofs.Trees.{compare_component-lawful}

-- turned j times
abbrev pub turned : {A : Type 0} → ℕ → List A → List A
turned zero a = a
turned (suc j) a = turned j (turn a)

module _ {A : Type 0} where
  -- by as many turns as a has entries
  pub turned-cut : (a b : List A) → turned (length a) (a ++ b) ≡ b ++ a
  turned-cut [] b = sym (append-nil b)
  turned-cut (x ∷ a) b = ap (turned (length a)) (append_assoc a b (x ∷ [])) ∙ turned-cut a (b ++ (x ∷ [])) ∙ append_assoc b (x ∷ []) a

  pub turned-whole : (a : List A) → turned (length a) a ≡ a
  turned-whole a = ap (turned (length a)) (sym (append-nil a)) ∙ turned-cut a []

  turned-add : (i j : ℕ) (a : List A) → turned (i + j) a ≡ turned j (turned i a)
  turned-add zero j a = rw (zero-add j)
  turned-add (suc i) j a = rw (suc-add i j) (turned-add i j (turn a))

  turned-times : (q p : ℕ) (a : List A) → turned p a ≡ a → turned (q * p) a ≡ a
  turned-times zero p a e = rw (zero-mul p)
  turned-times (suc q) p a e = rw (suc-mul q p) (turned-add (q * p) p a ∙ ap (turned p) (turned-times q p a e) ∙ e)

  first-add : (i j : ℕ) (a : List A) → first_rotations (i + j) a ≡ first_rotations i a ++ first_rotations j (turned i a)
  first-add zero j a = rw (zero-add j)
  first-add (suc i) j a = rw (suc-add i j) (ap (a ∷◌) (first-add i j (turn a)))

  of_first : (k : ℕ) {a r : List A} → r ∈ first_rotations k a → (j : ℕ) × (j < k) × (r ≡ turned j a)
  of_first zero m = not-in-nil m
  of_first (suc k) m =
      either (in-cons-cases m)
      (λ q. (0, omega arith, q))
      (λ i. let r = of_first k i in (suc r.0, omega (arith, r.1), r.2))

-- p turns give a back, and no fewer
pub record FirstReturn {A : Type 0} (a : List A) (p : ℕ) : Type 0 where
  pub positive : 0 < p
  pub back : turned p a ≡ a
  pub first : (j : ℕ) → 0 < j → j < p → turned j a ≡ a → ⊥

module _ {A : Type 0} {a : List A} {p : ℕ} (t : FirstReturn a p) where
  -- what is over after whole rounds gives a back only if it is nothing
  pub nothing-over : (q r : ℕ) → r < p → turned (q * p + r) a ≡ a → r ≡ 0
  nothing-over q zero h e = refl
  nothing-over q (suc r) h e = absurd (t.first (suc r) (omega arith) h (ap (turned (suc r)) (sym (turned-times q p a t.back)) ∙ sym (turned-add (q * p) (suc r) a) ∙ e))

  module _ {c : List A → List A → Ordering} (w : Lawful c) where
    -- in one round, only a itself equals a
    one-round : (n : ℕ) → p ≡ suc n → length (keep (same c a) (first_rotations p a)) ≡ 1
    one-round n e =
        let others = keep-none (same c a) (first_rotations n (turn a)) (λ r m.
        let i = of_first n m in
        same-of-apart w a r (λ q. t.first (suc i.0) (omega arith) (omega (arith, i.1)) (sym i.2 ∙ sym q))) in
        rw (e, same_self w a, others)

    -- in q rounds, q rotations equal a
    equal-rotations : (q : ℕ) → length (keep (same c a) (first_rotations (q * p) a)) ≡ q
    equal-rotations zero = rw (zero-mul p)
    equal-rotations (suc q) =
        let k = first_rotations (q * p) a in
        let rounds : first_rotations (suc q * p) a ≡ k ++ first_rotations p a =
        ap (λ n. first_rotations n a) (suc-mul q p) ∙ first-add (q * p) p a ∙ ap (λ b. k ++ first_rotations p b) (turned-times q p a t.back) in
        ap (λ l. length (keep (same c a) l)) rounds
        ∙ ap length (keep_append (same c a) k (first_rotations p a))
        ∙ omega (arith, length-append (keep (same c a) k) (keep (same c a) (first_rotations p a)), equal-rotations q, one-round (p - 1) (omega (arith, t.positive)))

-- there is such a number
module _ {A : Type 0} {c : List A → List A → Ordering} (w : Lawful c) (a : List A) where
  search-return : (k p : ℕ) → p + k ≡ length a → 0 < p → ((j : ℕ) → 0 < j → j < p → turned j a ≡ a → ⊥) → (q : ℕ) × FirstReturn a q
  search-return zero p e h f =
      let all : p ≡ length a = omega arith in
      (p, record { positive = h; back = ap (λ k. turned k a) all ∙ turned-whole a; first = f })
  search-return (suc k) p e h f =
      by-test (same c a (turned p a))
      (λ t. (p, record { positive = h; back = sym (same_true w a (turned p a) t); first = f }))
      (λ t. search-return k (suc p) (omega arith) (omega arith) (λ j i l b.
      by-test (leb p j)
      (λ u.
      let q : j ≡ p = omega (arith, leb-true p j u) in
      no_both (same-of-path w (sym b ∙ ap (λ n. turned n a) q)) t)
      (λ u. f j i (leb-false p j u) b)))

  pub first-return : 0 < length a → (p : ℕ) × FirstReturn a p
  first-return h = search-return (length a - 1) 1 (omega arith) (omega arith) (λ j k l. absurd (omega arith))

pub symmetry-is : (c : Component) (p q : ℕ) → FirstReturn c p → length c ≡ q * p → rotation_symmetry c ≡ q
unfolding rotation_symmetry
symmetry-is c p q t e = ap (λ k. length (keep (same compare_component c) (first_rotations k c))) e ∙ equal-rotations t compare_component-lawful q

-- The number is that of the rounds in the component, if it has a tree: so it divides the number of trees.
pub record Rounds (c : Component) : Type 0 where
  pub period : ℕ
  pub least : FirstReturn c period
  pub divides : length c ≡ rotation_symmetry c * period

pub rounds : (c : Component) → nonempty c ≡ true → Rounds c
rounds [] h = absurd (true≢false (sym h))
rounds (x ∷ l) h =
    let c : Component = x ∷ l in
    let found = first-return compare_component-lawful c (omega arith) in
    let p = found.0 in
    let q = length c / p in
    let sum : q * p + length c % p ≡ length c = div-add-mod' (length c) p in
    let none = nothing-over found.1 q (length c % p) (mod-lt (length c) found.1.positive) (ap (λ k. turned k c) sum ∙ turned-whole c) in
    let whole : length c ≡ q * p = omega (arith, sum, none) in
    record { period = p; least = found.1; divides = whole ∙ ap (λ k. k * p) (sym (symmetry-is c p q found.1 whole)) }

some-factor : {n : ℕ} (q p : ℕ) → suc n ≡ q * p → 1 ≤ q
some-factor zero p e = absurd (omega (arith, zero-mul p))
some-factor (suc q) p e = omega arith

-- and is from 1 to the number of trees
pub symmetry-bounds : (c : Component) → nonempty c ≡ true → (1 ≤ rotation_symmetry c) × (rotation_symmetry c ≤ length c)
symmetry-bounds [] h = absurd (true≢false (sym h))
symmetry-bounds (x ∷ l) h =
    let c : Component = x ∷ l in
    let r = rounds c h in
    (some-factor (rotation_symmetry c) r.period r.divides, rw r.divides (le-mul_of_pos_right (rotation_symmetry c) r.least.positive))
