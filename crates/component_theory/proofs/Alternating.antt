-- The walk, ordered by paths: a path is the list of the keys from the root down, and the walk rises by the alternating order of paths.
use mathlib.Core.Path.{◌≡◌, refl, ap, ap₂, sym, ◌∙◌}
use mathlib.Core.Bool.{Bool, true, false, not}
use mathlib.Core.List.{List, [], ◌∷◌, ◌++◌, append-nil, append_assoc}
use Prim.Native.Nat.{ℕ, zero, suc, Ordering, compare}
use Rattle.lists.specs.Order.{lex_by}
use Rattle.lists.specs.Select.{gather}
use Rattle.lists.proofs.Tests.{◌∈◌, either}
use Rattle.lists.proofs.Comparison.{compare-lawful}
use Rattle.lists.proofs.Members.{not-in-nil, in-single, of-gather}
use Rattle.lists.proofs.Rising.{Rising, rising_nil, rising_cons, rising-single, rising-append, rising-gather-rising}
use Rattle.lists.proofs.RisingPlaces.{flag_after, flag_after-last, lex_by-strip}
use Rattle.patterns.specs.Generation.{walk}
use Rattle.component_theory.proofs.Traversal.{of-walk}

-- The alternating order of paths: the first difference decides; where there is none, the shorter path comes first if its length is even, and last if it is odd.
abbrev pub compare_alternating : List ℕ → List ℕ → Ordering
compare_alternating l m = lex_by compare not true l m

-- a child's path is its parent's with the child's key after it, and the keys of the children rise
pub record Keyed {A : Type 0} (kids : A → List A) (path : A → List ℕ) (key : A → ℕ) : Type 0 where
  pub kid_path : (c d : A) → d ∈ kids c → path d ≡ path c ++ (key d ∷ [])
  pub keys_rise : (c : A) → Rising (λ x y. compare (key x) (key y)) (kids c)

module _ {A : Type 0} {kids : A → List A} {path : A → List ℕ} {key : A → ℕ} (w : Keyed kids path key) where
  below : (c d x : A) (r : List ℕ) → d ∈ kids c → path x ≡ path d ++ r → path x ≡ path c ++ (key d ∷ r)
  below c d x r i e = e ∙ ap (λ p. p ++ r) (w.kid_path c d i) ∙ append_assoc (path c) (key d ∷ []) r

  -- what is below c has a path that begins with the path of c
  pub walk-path : (j : ℕ) (even : Bool) (c x : A) → x ∈ walk kids j even c → (r : List ℕ) × (path x ≡ path c ++ r)
  walk-path zero even c x m = not-in-nil m
  walk-path (suc j) even c x m =
      either (of-walk kids j even c m)
      (λ e. ([], ap path e ∙ sym (append-nil (path c))))
      (λ r. let s = walk-path j (not even) r.0 x r.2 in (key r.0 ∷ s.0, below c r.0 x s.0 r.1 s.1))

  walk-path-below : (j : ℕ) (even : Bool) (c d x : A) → d ∈ kids c → x ∈ walk kids j even d → (r : List ℕ) × (path x ≡ path c ++ (key d ∷ r))
  walk-path-below j even c d x i m = let s = walk-path j even d x m in (s.0, below c d x s.0 i s.1)

  -- a common beginning of two paths is taken off
  stripped : (c x y : A) (r s : List ℕ) (even : Bool) → flag_after not true (path c) ≡ even → path x ≡ path c ++ r → path y ≡ path c ++ s
      → compare_alternating (path x) (path y) ≡ lex_by compare not even r s
  stripped c x y r s even f e e' = ap₂ compare_alternating e e' ∙ lex_by-strip compare-lawful not true (path c) r s ∙ ap (λ b. lex_by compare not b r s) f

  -- what is below an earlier child comes before what is below a later one
  across : (c d e x y : A) (r s : List ℕ) → compare (key d) (key e) ≡ Ordering.lt → path x ≡ path c ++ (key d ∷ r) → path y ≡ path c ++ (key e ∷ s)
      → compare_alternating (path x) (path y) ≡ Ordering.lt
  across c d e x y r s h p q = stripped c x y (key d ∷ r) (key e ∷ s) (flag_after not true (path c)) refl p q ∙ rw h

  below-rises : (j : ℕ) (even : Bool) (c : A) → ((d : A) → d ∈ kids c → Rising (λ x y. compare_alternating (path x) (path y)) (walk kids j even d))
      → Rising (λ x y. compare_alternating (path x) (path y)) (gather (walk kids j even) (kids c))
  below-rises j even c h =
      rising-gather-rising (walk kids j even) (w.keys_rise c)
      (λ d e i k l x y m n.
      let r = walk-path-below j even c d x i m in
      let s = walk-path-below j even c e y k n in
      across c d e x y r.0 s.0 l r.1 s.1)
      h

  kid-flag : (c d : A) (even : Bool) → flag_after not true (path c) ≡ even → d ∈ kids c → flag_after not true (path d) ≡ not even
  kid-flag c d even f i = ap (flag_after not true) (w.kid_path c d i) ∙ flag_after-last not true (path c) (key d) ∙ ap not f

  -- the walk rises by the alternating order of paths
  pub walk-rises : (j : ℕ) (even : Bool) (c : A) → flag_after not true (path c) ≡ even → Rising (λ x y. compare_alternating (path x) (path y)) (walk kids j even c)
  walk-rises zero even c f = rising_nil
  walk-rises (suc j) true c f =
      rising_cons
      (λ y m.
      let r = of-gather (walk kids j false) (kids c) m in
      let s = walk-path-below j false c r.0 y r.1 r.2 in
      stripped c c y [] (key r.0 ∷ s.0) true f (sym (append-nil (path c))) s.1)
      (below-rises j false c (λ d i. walk-rises j false d (kid-flag c d true f i)))
  walk-rises (suc j) false c f =
      rising-append
      (below-rises j true c (λ d i. walk-rises j true d (kid-flag c d false f i)))
      (rising-single c)
      (λ x y m n.
      let r = of-gather (walk kids j true) (kids c) m in
      let s = walk-path-below j true c r.0 x r.1 r.2 in
      stripped c x y (key r.0 ∷ s.0) [] false f s.1 (ap path (in-single n) ∙ sym (append-nil (path c))))
