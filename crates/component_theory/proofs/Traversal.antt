-- A depth-first walk with alternating output, over any children: it lists every descendant, and none twice; and reversed it is such a walk again.
use mathlib.Core.Path.{◌≡◌, refl, ap, sym, ◌∙◌}
use mathlib.Core.Logic.{◌⊎◌, inl, inr}
use mathlib.Core.Bool.{Bool, true, false, not}
use mathlib.Core.List.{List, [], ◌∷◌, ◌++◌, reverse, reverse-cons, reverse-append}
use Prim.Native.Nat.{ℕ, zero, suc, ◌+◌, ◌≤◌, ◌<◌}
use native.Mathlib.Omega.{arith}
use Rattle.lists.specs.Select.{gather}
use Rattle.lists.proofs.Tests.{◌∈◌, either}
use Rattle.lists.proofs.Members.{NoDup, one, empty, in_head, in_tail, in_moved, in-single, in-cons-cases, in_append_left, in_append_right, in-append-cases, in-gather, of-gather, not-in-nil, nodup_append, nodup-gather, nodup-single}
use Rattle.lists.proofs.Gathering.{gather-same}
use Rattle.lists.proofs.Reversed.{reverse-gather}
use Rattle.patterns.specs.Generation.{walk}

-- k steps up
abbrev pub climb : {A : Type 0} → (A → A) → ℕ → A → A
climb up zero x = x
climb up (suc k) x = up (climb up k x)

-- A child has one parent and a level one lower, which is not 0, and stands once among the children.
pub record Ranked {A : Type 0} (kids : A → List A) (up : A → A) (level : A → ℕ) : Type 0 where
  pub kid_up : (c d : A) → d ∈ kids c → up d ≡ c
  pub kid_level : (c d : A) → d ∈ kids c → suc (level d) ≡ level c
  pub kid_positive : (c d : A) → d ∈ kids c → 0 < level d
  pub kids_once : (c : A) → NoDup (kids c)

positive-suc : (n : ℕ) → 0 < n → (j : ℕ) × (n ≡ suc j)
positive-suc zero h = absurd (omega arith)
positive-suc (suc j) h = (j, refl)

module _ {A : Type 0} (kids : A → List A) where
  -- a member is c itself or is below a child, and the other way round
  pub of-walk : (j : ℕ) (even : Bool) (c : A) {x : A} → x ∈ walk kids (suc j) even c → (x ≡ c) ⊎ ((d : A) × (d ∈ kids c) × (x ∈ walk kids j (not even) d))
  of-walk j true c m = either (in-cons-cases m) (λ e. inl e) (λ k. inr (of-gather (walk kids j false) (kids c) k))
  of-walk j false c m =
      either (in-append-cases (gather (walk kids j true) (kids c)) m)
      (λ k. inr (of-gather (walk kids j true) (kids c) k))
      (λ k. inl (in-single k))

  pub walk-root : (j : ℕ) (even : Bool) (c : A) → c ∈ walk kids (suc j) even c
  walk-root j true c = in_head
  walk-root j false c = in_append_right (gather (walk kids j true) (kids c)) in_head

  pub walk-below : (j : ℕ) (even : Bool) (c : A) {d x : A} → d ∈ kids c → x ∈ walk kids j (not even) d → x ∈ walk kids (suc j) even c
  walk-below j true c i m = in_tail (in-gather (walk kids j false) i m)
  walk-below j false c i m = in_append_left (c ∷ []) (in-gather (walk kids j true) i m)

  -- what passes from c to its children holds of all that is listed
  pub walk-all : (P : A → Type 0) → ((c d : A) → P c → d ∈ kids c → P d) → (j : ℕ) (even : Bool) (c : A) {x : A} → P c → x ∈ walk kids j even c → P x
  walk-all P h zero even c p m = not-in-nil m
  walk-all P h (suc j) even c p m =
      either (of-walk j even c m)
      (λ e. rw e p)
      (λ r. walk-all P h j (not even) r.0 (h c r.0 p r.1) r.2)

  below-reversed : (j : ℕ) (even : Bool) (c : A) → ((d : A) → reverse (walk kids j even d) ≡ walk (λ d. reverse (kids d)) j (not even) d)
      → reverse (gather (walk kids j even) (kids c)) ≡ gather (walk (λ d. reverse (kids d)) j (not even)) (reverse (kids c))
  below-reversed j even c h =
      reverse-gather (walk kids j even) (kids c)
      ∙ gather-same (λ d. reverse (walk kids j even d)) (walk (λ d. reverse (kids d)) j (not even)) (reverse (kids c)) (λ d i. h d)

  -- the walk reversed is the walk over the reversed children, with the flag turned
  pub reverse-walk : (j : ℕ) (even : Bool) (c : A) → reverse (walk kids j even c) ≡ walk (λ d. reverse (kids d)) j (not even) c
  reverse-walk zero even c = refl
  reverse-walk (suc j) true c =
      reverse-cons c (gather (walk kids j false) (kids c))
      ∙ ap (λ l. l ++ (c ∷ [])) (below-reversed j false c (λ d. reverse-walk j false d))
  reverse-walk (suc j) false c =
      reverse-append (gather (walk kids j true) (kids c)) (c ∷ [])
      ∙ ap (λ l. c ∷ l) (below-reversed j true c (λ d. reverse-walk j true d))

module _ {A : Type 0} {kids : A → List A} {up : A → A} {level : A → ℕ} (w : Ranked kids up level) where
  -- with enough fuel, the children of what is listed are listed
  pub walk-closed : (j : ℕ) (even : Bool) (c d x : A) → level c ≤ j → d ∈ walk kids j even c → x ∈ kids d → x ∈ walk kids j even c
  walk-closed zero even c d x h m i = not-in-nil m
  walk-closed (suc j) even c d x h m i =
      either (of-walk kids j even c m)
      (λ e.
      let i' : x ∈ kids c = rw (sym e) i in
      walk-below kids j even c i' (fuelled j (not even) (omega (arith, w.kid_level c x i', w.kid_positive c x i'))))
      (λ r. walk-below kids j even c r.1 (walk-closed j (not even) r.0 d x (omega (arith, w.kid_level c r.0 r.1)) r.2 i))
    where
      fuelled : (j : ℕ) (even : Bool) → 0 < j → x ∈ walk kids j even x
      fuelled zero even h = absurd (omega arith)
      fuelled (suc j) even h = walk-root kids j even x

  -- every member is some steps below c
  pub walk-climb : (j : ℕ) (even : Bool) (c x : A) → x ∈ walk kids j even c → (k : ℕ) × (k + level x ≡ level c) × (climb up k x ≡ c)
  walk-climb zero even c x m = not-in-nil m
  walk-climb (suc j) even c x m =
      either (of-walk kids j even c m)
      (λ e. (0, omega (arith, ap level e), e))
      (λ r.
      let s = walk-climb j (not even) r.0 x r.2 in
      (suc s.0, omega (arith, s.1, w.kid_level c r.0 r.1), ap up s.2 ∙ w.kid_up c r.0 r.1))

  -- two components of one level have no common descendant
  walk-apart : (j : ℕ) (even : Bool) (c d x : A) → level c ≡ level d → x ∈ walk kids j even c → x ∈ walk kids j even d → c ≡ d
  walk-apart j even c d x h m n =
      let r = walk-climb j even c x m in
      let s = walk-climb j even d x n in
      let e : r.0 ≡ s.0 = omega (arith, r.1, s.1) in
      sym r.2 ∙ ap (λ k. climb up k x) e ∙ s.2

  -- c is not among what is below its children
  walk-lower : (j : ℕ) (even : Bool) (c : A) → c ∈ gather (walk kids j even) (kids c) → ⊥
  walk-lower j even c m =
      let r = of-gather (walk kids j even) (kids c) m in
      let s = walk-climb j even r.0 c r.2 in
      omega (arith, s.1, w.kid_level c r.0 r.1)

  below-once : (j : ℕ) (even : Bool) (c : A) → ((d : A) → NoDup (walk kids j even d)) → NoDup (gather (walk kids j even) (kids c))
  below-once j even c h =
      nodup-gather (walk kids j even) (w.kids_once c)
      (λ d i. h d)
      (λ d e x i k m n. walk-apart j even d e x (omega (arith, w.kid_level c d i, w.kid_level c e k)) m n)

  -- nothing is listed twice
  pub walk-once : (j : ℕ) (even : Bool) (c : A) → NoDup (walk kids j even c)
  walk-once zero even c = empty
  walk-once (suc j) true c = one (walk-lower j false c) (below-once j false c (λ d. walk-once j false d))
  walk-once (suc j) false c =
      nodup_append
      (below-once j true c (λ d. walk-once j true d))
      (nodup-single c)
      (λ x i k. walk-lower j true c (in_moved (in-single k) i))

  -- With the level as the bound, the lists of the children are of the same form.
  below-level : (j : ℕ) (even : Bool) (c : A) → level c ≡ suc j → gather (walk kids j even) (kids c) ≡ gather (λ d. walk kids (level d) even d) (kids c)
  below-level j even c h =
      gather-same (walk kids j even) (λ d. walk kids (level d) even d) (kids c)
      (λ d i. let e : j ≡ level d = omega (arith, w.kid_level c d i) in ap (λ k. walk kids k even d) e)

  pub level-walk-true : (c : A) → 0 < level c → walk kids (level c) true c ≡ c ∷ gather (λ d. walk kids (level d) false d) (kids c)
  level-walk-true c h =
      let r = positive-suc (level c) h in
      ap (λ k. walk kids k true c) r.1 ∙ ap (λ l. c ∷ l) (below-level r.0 false c r.1)

  pub level-walk-false : (c : A) → 0 < level c → walk kids (level c) false c ≡ gather (λ d. walk kids (level d) true d) (kids c) ++ (c ∷ [])
  level-walk-false c h =
      let r = positive-suc (level c) h in
      ap (λ k. walk kids k false c) r.1 ∙ ap (λ l. l ++ (c ∷ [])) (below-level r.0 true c r.1)
