-- Paths in memory: comparing two paths from an index on, and writing a path from its end while the component climbs to the cycle.
use mathlib.Core.Path.{◌≡◌, refl, ap, ap₂, sym, ◌∙◌}
use mathlib.Core.Bool.{Bool, true, false, not, cond, true≢false}
use mathlib.Core.List.{List, [], ◌∷◌, ◌++◌, append_assoc, append-nil}
use Prim.Native.Nat.{Ordering}
use Prim.Native.Nat.{ℕ, suc, ◌+◌, ◌-◌, ◌%◌, ◌≤◌, ◌<◌, min, compare}
use native.Mathlib.Omega.{arith}
use lib.Dec.{eqb}
use borrow.Author.Tests.{eq-eqb, ne_eqb}
use lib.ListN.{length, set, take, drop, replicate, length-drop, length-append, length-replicate, length-set, drop_of_length-le}
use lib.Seq.{drop-cons, drop-length, get_or-set_same, drop-set-lt, take_all}
use Rattle.lists.specs.Order.{then, at_most, lex_by}
use Rattle.lists.specs.Blocks.{ordering_of}
use Rattle.lists.proofs.Tests.{by-test}
use Rattle.lists.proofs.Comparison.{compare-lt, compare-gt, compare_self, by_order, lt-of-compare, eq-of-compare, gt-of-compare}
use Rattle.lists.proofs.Ordering.{ordering_of-numbers}
use Rattle.std.proofs.Common.{nat_cmp}
use Rattle.std.specs.Ordering.{ordering_reverse, MatchOrdering}
use Rattle.std.specs.declared.cmp.Ordering as cmp
use Rattle.std.specs.declared.cmp.Ordering.TheVariants.{Less, Equal, Greater}
use Rattle.patterns.specs.Tree.{point, merge, compare_tree}
use Rattle.patterns.specs.Component.{Component, points, flat, valid_component}
use Rattle.patterns.specs.Generation.{has_parent, parent}
use Rattle.patterns.specs.System.{compare_generated}
use Rattle.patterns.proofs.Trees.{length-flat, flat-injective}
use Rattle.component_theory.specs.Path.{key, path}
use Rattle.trees.specs.Beginnings.{leading_points}
use Rattle.trees.proofs.FirstPoints.{drop-points}
use Rattle.paths.specs.HeldPaths.{HeldKeys, HeldPair, Traced}
use Rattle.components.specs.Climbs.{Climbed}
use Rattle.std.proofs.Common.{Some}
use Rattle.component_theory.proofs.Lemma8.{lead, parent-points, parent-length}
use Rattle.component_theory.proofs.Keys.{key_left, key_right}
use Rattle.component_theory.proofs.Generation.{length-points}
use Rattle.component_theory.proofs.Paths.{parent-path, path-length, generated-paths}

-- Comparing.

-- the flag at index i: the length up to there is even
abbrev pub even : ℕ → Bool
even i = eqb (i % 2) 0

-- an answer turned round
abbrev turned : Ordering → Ordering
turned Ordering.lt = Ordering.gt
turned Ordering.eq = Ordering.eq
turned Ordering.gt = Ordering.lt

reversed : (o : cmp.Ordering) → ordering_of (ordering_reverse o) ≡ turned (ordering_of o)
reversed Less = refl
reversed Equal = refl
reversed Greater = refl

-- all before i is equal in both paths
pub record Passed (a b : List ℕ) (i : ℕ) : Type 0 where
  pub in_a : i ≤ length a
  pub in_b : i ≤ length b
  pub rest : lex_by compare not (even i) (drop i a) (drop i b) ≡ lex_by compare not true a b

module _ {a b : List ℕ} {i : ℕ} (w : Passed a b i) where
  -- the second path ends first
  pub passed-longer : i < length a → length b ≤ i → cond (even i) Ordering.gt Ordering.lt ≡ lex_by compare not true a b
  passed-longer h k = sym (ap₂ (lex_by compare not (even i)) (drop-cons a i 0 h) (drop_of_length-le b k)) ∙ w.rest

  -- the first path ends first
  pub passed-shorter : length a ≤ i → i < length b → cond (even i) Ordering.lt Ordering.gt ≡ lex_by compare not true a b
  passed-shorter h k = sym (ap₂ (lex_by compare not (even i)) (drop_of_length-le a h) (drop-cons b i 0 k)) ∙ w.rest

  pub passed-equal : length a ≤ i → length b ≤ i → Ordering.eq ≡ lex_by compare not true a b
  passed-equal h k = sym (ap₂ (lex_by compare not (even i)) (drop_of_length-le a h) (drop_of_length-le b k)) ∙ w.rest

  -- no difference up to the end of the shorter path
  module _ (m : i ≡ min (length a) (length b)) where
    pub passed-even : i % 2 ≡ 0 → ordering_of (nat_cmp (length a) (length b)) ≡ lex_by compare not true a b
    passed-even h =
        let e : even i ≡ true = eq-eqb (i % 2) 0 h in
        rw (ordering_of-numbers (length a) (length b))
        (by_order (compare (length a) (length b))
        (λ o. let l = lt-of-compare (length a) (length b) o in o ∙ rw e at (passed-shorter (omega arith) (omega arith)))
        (λ o. let l = eq-of-compare (length a) (length b) o in o ∙ passed-equal (omega arith) (omega arith))
        (λ o. let l = gt-of-compare (length a) (length b) o in o ∙ rw e at (passed-longer (omega arith) (omega arith))))

    pub passed-odd : (i % 2 ≡ 0 → ⊥) → ordering_of (ordering_reverse (nat_cmp (length a) (length b))) ≡ lex_by compare not true a b
    passed-odd h =
        let e : even i ≡ false = ne_eqb (i % 2) 0 h in
        rw (reversed (nat_cmp (length a) (length b)), ordering_of-numbers (length a) (length b))
        (by_order (compare (length a) (length b))
        (λ o. let l = lt-of-compare (length a) (length b) o in ap turned o ∙ rw e at (passed-shorter (omega arith) (omega arith)))
        (λ o. let l = eq-of-compare (length a) (length b) o in ap turned o ∙ passed-equal (omega arith) (omega arith))
        (λ o. let l = gt-of-compare (length a) (length b) o in ap turned o ∙ rw e at (passed-longer (omega arith) (omega arith))))

-- Climbing.

-- a component with no parent is a cycle
root-points : (c : Component) → has_parent c ≡ false → points c ≡ length c
root-points [] e = refl
root-points (point ∷ c) e = omega (arith, root-points c e)
root-points (merge t u ∷ c) e = absurd (true≢false e)

no_keys : (c : Component) → points c ≤ length c → path c ≡ []
no_keys c h = empty (path c) (omega (arith, path-length c))
  where
    empty : (l : List ℕ) → length l ≡ 0 → l ≡ []
    empty [] q = refl
    empty (x ∷ l) q = absurd (omega arith)

-- a key is less than twice the number of trees
pub key-small : (c : Component) → has_parent c ≡ true → key c ≤ length c + length c
key-small c t =
    let v = lead c t in
    let i : v.leading ≤ length c =
    omega (arith, ap length v.split, length-append (replicate v.leading point) (merge v.left v.right ∷ v.rest), length-replicate v.leading point) in
    by-test (at_most compare_tree v.left v.right)
    (λ e. omega (arith, ap key v.split, key_left v.leading v.left v.right v.rest e))
    (λ e. omega (arith, ap key v.split, ap length v.split, key_right v.leading v.left v.right v.rest e))

-- a step up keeps the leading points
parent-leading : (c : Component) → leading_points c ≤ leading_points (parent c)
unfolding parent
parent-leading [] = omega arith
parent-leading (point ∷ c) = omega (arith, parent-leading c)
parent-leading (merge t u ∷ c) = omega arith

leading-within : (c : Component) → leading_points c ≤ points c
leading-within [] = omega arith
leading-within (point ∷ c) = omega (arith, leading-within c)
leading-within (merge t u ∷ c) = omega arith

-- the component s₀ has climbed to s, which has so many trees and at least so many leading points, and the keys of the way down from s to s₀ stand from `at` on
pub record Tracing (s₀ keys₀ s keys : List ℕ) (trees lead at : ℕ) : Type 0 where
  pub top : Component
  pub reached : Component
  pub top_is : s₀ ≡ flat top
  pub is : s ≡ flat reached
  pub same : length s ≡ length s₀
  pub keys_same : length keys ≡ length keys₀
  pub within : at ≤ length keys
  pub deep : points reached ≤ at + length reached
  pub small : length s ≤ 200
  pub rest : path top ≡ path reached ++ drop at keys
  pub counted : trees ≡ length reached
  pub leads : lead ≤ leading_points reached

pub tracing-start : {s keys : List ℕ} {trees : ℕ} (h : HeldKeys s keys) → trees ≡ length h.trees → Tracing s keys s keys trees 0 (length keys)
tracing-start {s} {keys} h n = record {
  top = h.trees;
  reached = h.trees;
  top_is = h.is;
  is = h.is;
  same = refl;
  keys_same = refl;
  within = omega arith;
  deep = omega (arith, h.room, ap length h.is, length-flat h.trees);
  small = h.small;
  rest = sym (append-nil (path h.trees)) ∙ ap (λ l. path h.trees ++ l) (sym (drop-length keys));
  counted = n;
  leads = omega arith;
}

module _ {s₀ keys₀ s keys : List ℕ} {trees lead at : ℕ} (w : Tracing s₀ keys₀ s keys trees lead at) where
  pub tracing-within : leading_points w.reached ≤ length s
  tracing-within = omega (arith, leading-within w.reached, ap length w.is, length-flat w.reached)

  -- the trees behind the leading points that are known, and those found among them
  pub tracing-ahead : take (length s - lead) (drop lead s) ≡ flat (drop lead w.reached)
  tracing-ahead =
      take_all (length s - lead) (drop lead s) (omega (arith, length-drop lead s))
      ∙ ap (drop lead) w.is
      ∙ (drop-points w.reached lead w.leads).0

  pub tracing-lead : {k : ℕ} → k ≡ leading_points (drop lead w.reached) → lead + k ≡ leading_points w.reached
  tracing-lead e = omega (arith, e, (drop-points w.reached lead w.leads).1)

  ended : points w.reached ≤ length w.reached → (c : Component) → s₀ ≡ flat c → Traced c at keys
  ended h c e = record {
    within = w.within;
    is = sym (ap (λ l. l ++ drop at keys) (no_keys w.reached h)) ∙ sym w.rest ∙ ap path (flat-injective w.top c (sym w.top_is ∙ e));
  }

  -- the cycle is reached
  pub tracing-root : has_parent w.reached ≡ false → (c : Component) → s₀ ≡ flat c → Traced c at keys
  tracing-root t = ended (omega (arith, root-points w.reached t))

  pub tracing-end : at ≡ 0 → (c : Component) → s₀ ≡ flat c → Traced c at keys
  tracing-end h = ended (omega (arith, w.deep))

  pub step-key : {k : ℕ} {s' : List ℕ} → Climbed w.reached (Some k) s' → k ≤ 400
  step-key h =
      omega (arith, key-small w.reached h.0, h.2, length-points w.reached, ap length w.is, length-flat w.reached, w.small)

  -- one step up
  pub tracing-step : {k h : ℕ} {s' : List ℕ} → 0 < at → h ≡ leading_points w.reached → Climbed w.reached (Some k) s'
      → Tracing s₀ keys₀ s' (set keys (at - 1) k) (trees + 1) h (at - 1)
  tracing-step {k} {s' = s'} p q h =
      let n : suc (at - 1) ≡ at = omega arith in
      let i : at - 1 < length keys = omega (arith, w.within) in
      let d : drop (at - 1) (set keys (at - 1) k) ≡ key w.reached ∷ drop at keys =
      drop-cons (set keys (at - 1) k) (at - 1) 0 (omega (arith, length-set keys (at - 1) k))
      ∙ ap₂ ◌∷◌ (get_or-set_same keys (at - 1) k 0 i ∙ h.2)
      (ap (λ m. drop m (set keys (at - 1) k)) n ∙ drop-set-lt at keys (at - 1) k (omega arith)) in
      let l : length s' ≡ length s =
      omega (arith, ap length h.1, length-flat (parent w.reached), parent-points w.reached, ap length w.is, length-flat w.reached) in
      record {
        top = w.top;
        reached = parent w.reached;
        top_is = w.top_is;
        is = h.1;
        same = l ∙ w.same;
        keys_same = length-set keys (at - 1) k ∙ w.keys_same;
        within = omega (arith, length-set keys (at - 1) k, w.within);
        deep = omega (arith, w.deep, parent-points w.reached, parent-length w.reached h.0);
        small = omega (arith, w.small);
        rest = w.rest ∙ ap (λ m. m ++ drop at keys) (parent-path w.reached h.0)
            ∙ append_assoc (path (parent w.reached)) (key w.reached ∷ []) (drop at keys)
            ∙ ap (λ m. path (parent w.reached) ++ m) (sym d);
        counted = omega (arith, w.counted, parent-length w.reached h.0);
        leads = omega (arith, q, parent-leading w.reached);
      }

-- a buffer of n keys read from where the path begins to its end
pub traced-whole : {c : Component} {i : ℕ} {keys : List ℕ} → Traced c i keys → (n : ℕ) → length keys ≡ n → take (n - i) (drop i keys) ≡ path c
traced-whole {c} {i} {keys} t n e = take_all (n - i) (drop i keys) (omega (arith, length-drop i keys, e)) ∙ t.is

-- Two components: the numbers of points decide, and where they are equal the paths.
module _ (c d : Component) {s t : List ℕ} (e : s ≡ flat c) (f : t ≡ flat d) where
  pub fewer-points : length s < length t → Ordering.lt ≡ compare_generated c d
  unfolding compare_generated
  fewer-points h = rw (compare-lt (points c) (points d) (omega (arith, ap length e, ap length f, length-flat c, length-flat d)))

  pub more-points : length t < length s → Ordering.gt ≡ compare_generated c d
  unfolding compare_generated
  more-points h = rw (compare-gt (points c) (points d) (omega (arith, ap length e, ap length f, length-flat c, length-flat d)))

  pub generated-by-paths : HeldPair s t → length t ≡ length s → lex_by compare not true (path c) (path d) ≡ compare_generated c d
  generated-by-paths h l =
      let p : h.first ≡ c = flat-injective h.first c (sym h.first_is ∙ e) in
      let q : h.second ≡ d = flat-injective h.second d (sym h.second_is ∙ f) in
      let n : points d ≡ points c = omega (arith, length-flat c, length-flat d, ap length e, ap length f, l) in
      let v = h.valid (sym l) in
      sym
      (generated-paths c d (sym (ap valid_component p) ∙ v.0) (sym (ap valid_component q) ∙ v.1)
      ∙ ap (λ o. then o (lex_by compare not true (path c) (path d))) (ap (compare (points c)) n ∙ compare_self (points c)))

  -- the numbers of points compared, and where they are equal the paths
  pub generated-told : (o r : cmp.Ordering) → o ≡ nat_cmp (length s) (length t)
      → MatchOrdering o (r ≡ Less) (ordering_of r ≡ lex_by compare not true (path c) (path d)) (r ≡ Greater)
      → HeldPair s t → ordering_of r ≡ compare_generated c d
  generated-told Less r q h p =
      let n : compare (length s) (length t) ≡ Ordering.lt = sym (ordering_of-numbers (length s) (length t)) ∙ ap ordering_of (sym q) in
      ap ordering_of h ∙ fewer-points (lt-of-compare (length s) (length t) n)
  generated-told Equal r q h p =
      let n : compare (length s) (length t) ≡ Ordering.eq = sym (ordering_of-numbers (length s) (length t)) ∙ ap ordering_of (sym q) in
      h ∙ generated-by-paths p (sym (eq-of-compare (length s) (length t) n))
  generated-told Greater r q h p =
      let n : compare (length s) (length t) ≡ Ordering.gt = sym (ordering_of-numbers (length s) (length t)) ∙ ap ordering_of (sym q) in
      ap ordering_of h ∙ more-points (gt-of-compare (length s) (length t) n)
