-- The test of all rotations in one pass: a walk along the trees, which are a word, that keeps how many points the period of the trees so far has.
use mathlib.Core.Path.{◌≡◌, refl, ap, ap₂, sym, ◌∙◌, subst}
use mathlib.Core.Bool.{true, false}
use mathlib.Core.List.{List, [], ◌∷◌, ◌++◌, append_assoc, head-eq_of_cons-eq}
use Prim.Native.Nat.{ℕ, zero, suc, ◌+◌, ◌-◌, ◌*◌, ◌/◌, ◌%◌, ◌≤◌, ◌<◌, max, compare, Ordering}
use native.Mathlib.Nat.{add-zero, mod-eq_of_lt, div-eq_of_lt, mul-add-mod_self_right, mul-add-div_right}
use native.Mathlib.Omega.{arith}
use lib.Dec.{is_le}
use lib.ListN.{length, get_or, take, drop, replicate, length-append, length-replicate, take-append-drop}
use lib.Seq.{take-append-le, take_all}
use Rattle.lists.specs.Order.{lex, at_most}
use Rattle.lists.specs.Select.{each}
use Rattle.lists.proofs.Tests.{◌∈◌, by-test, each-true, each-false}
use Rattle.lists.proofs.Members.{in_list}
use Rattle.lists.proofs.Necklace.{Prenecklace, Earlier, up_to, prenecklace-one, earlier, prenecklace-equal, prenecklace-greater, prenecklace-smaller}
use Rattle.patterns.specs.Tree.{point, merge, size, code, compare_tree}
use Rattle.patterns.specs.Component.{Component, points, flat, rotations, compare_component, rotation_symmetry, nonempty}
use Rattle.patterns.proofs.Trees.{size-positive, length-flat, flat_append, points-append, compare_tree-lawful}
use Rattle.patterns.proofs.Rotations.{rotation-append, split-of-rotation}
use Rattle.memory.specs.Memory.{Held}
use Rattle.trees.specs.Beginnings.{leading_points}
use Rattle.trees.proofs.Walks.{Along, Next, next-tree, next-stretch, along-next, along-step, along-end, along-whole, no-trees}
use Rattle.component_theory.proofs.Powers.{Powers, powers-total, over-light}
use Rattle.component_theory.proofs.RotationSymmetry.{symmetry-is}
use Rattle.component_theory.proofs.Prenecklaces.{prenecklace-powers, period-count, whole-return, whole-necklace, over-less}
use Rattle.components.specs.RotationTest.{rotation_test}
use Rattle.std.proofs.Common.{Some, None, eqb}
use Rattle.std.specs.Bool.{then_some}
use Rattle.std.proofs.lemmas.Bool.Decides.{nat_tests}

-- the trees so far are a prenecklace, whose period has so many points
pub record Period (period : ℕ) (a : Component) : Type 0 where
  pub count : ℕ
  pub word : Prenecklace compare_tree count a
  pub place : period ≡ points (take count a)

abbrev pub Kept : ℕ → Component → Component → Type 0
Kept period a r = Period period a

-- no bytes: there is no rotation
pub none-less : (s : List ℕ) → length s ≡ 0 → (c : Component) → s ≡ flat c → Some 0 ≡ rotation_test c
unfolding rotation_symmetry
none-less s h c e =
    let q : c ≡ [] = no-trees c (omega (arith, ap length e, length-flat c)) in
    rw q

-- some rotation is less
lesser-told : (c : Component) {r : Component} → r ∈ rotations c → at_most compare_component c r ≡ false → None ≡ rotation_test c
lesser-told c m f = sym (ap (λ b. then_some b (rotation_symmetry c)) (each-false (at_most compare_component c) m f))

-- the first tree is a period
pub kept-start : {s : List ℕ} → Held s → 0 < length s → Along s (get_or s 0 0) (Kept (get_or s 0 0))
kept-start {s} h k =
    let w : Along s 0 (λ a r. Unit {0}) = record { ahead = []; rest = h.trees; cut = h.is; place = refl; kept = tt } in
    let n = along-next w k in
    let q : 0 + get_or s 0 0 ≡ get_or s 0 0 = omega arith in
    subst (λ i. Along s i (Kept (get_or s 0 0))) q
    (along-step w n (Kept (get_or s 0 0)) (record { count = 1; word = prenecklace-one compare_tree n.tree; place = omega (arith, n.number) }))

-- single points one after another are a prenecklace, whose period is one of them
same-points : (k : ℕ) → up_to compare_tree (replicate (suc k) point) (replicate k point) ≡ Ordering.eq
same-points zero = refl
same-points (suc k) = rw (compare_tree-lawful.self point) (same-points k)

points-of : (k : ℕ) → points (replicate k point) ≡ k
points-of zero = refl
points-of (suc k) = omega (arith, points-of k)

first-points : (k : ℕ) (c : Component) → k ≤ leading_points c → replicate k point ++ drop k c ≡ c
first-points zero c h = refl
first-points (suc k) [] h = absurd (omega arith)
first-points (suc k) (point ∷ c) h = ap (λ l. point ∷ l) (first-points k c (omega arith))
first-points (suc k) (merge t u ∷ c) h = absurd (omega arith)

points-kept : {s : List ℕ} (c : Component) (k : ℕ) → s ≡ flat c → suc k ≤ leading_points c → Along s (suc k) (Kept 1)
points-kept c k e h =
    record {
      ahead = replicate (suc k) point;
      rest = drop (suc k) c;
      cut = e ∙ ap flat (sym (first-points (suc k) c h));
      place = sym (points-of (suc k));
      kept = record {
        count = 1;
        word = record {
          positive = omega arith;
          within = omega (arith, length-replicate (suc k) point);
          repeats = same-points k;
          greater = λ j l m. absurd (omega arith);
        };
        place = refl;
      };
    }

-- the same behind all points that come first, which are powers of one of them
pub kept-behind : {s : List ℕ} → Held s → 0 < length s → (k at : ℕ) → ((c : Component) → s ≡ flat c → k ≡ leading_points c) → at ≡ max (get_or s 0 0) k
    → Along s at (Kept (get_or s 0 0))
kept-behind {s} h l k at f e =
    starts h.trees h.is
  where
    starts : (c : Component) → s ≡ flat c → Along s at (Kept (get_or s 0 0))
    starts [] q = absurd (omega (arith, ap length q))
    starts (point ∷ c) q =
        let one : get_or s 0 0 ≡ 1 = ap (λ l. get_or l 0 0) q in
        let n : at ≡ suc (leading_points c) = omega (arith, e, one, f (point ∷ c) q) in
        rw (one, n) (points-kept (point ∷ c) (leading_points c) q (omega arith))
    starts (merge t u ∷ c) q =
        let n : at ≡ get_or s 0 0 = omega (arith, e, f (merge t u ∷ c) q) in
        rw n (kept-start h l)

-- the codes of the trees that begin at two places, compared
abbrev pub trees_at : List ℕ → ℕ → ℕ → Ordering
trees_at s i j = lex compare (take (i + get_or s i 0 - i) (drop i s)) (take (j + get_or s j 0 - j) (drop j s))

-- a component turned to begin at some tree is among its rotations
turned-in : (k : ℕ) (c : Component) → 0 < length c → (drop k c ++ take k c) ∈ rotations c
turned-in k [] h = absurd (omega arith)
turned-in k (t ∷ c) h =
    let q = take-append-drop k (t ∷ c) in
    in_list (ap rotations q) (rotation-append (take k (t ∷ c)) (drop k (t ∷ c)) (ap nonempty q))

-- some trees have points, and where there are points there are trees
taken-points : (k : ℕ) (c : Component) → 0 < k → 0 < length c → 0 < points (take k c)
taken-points zero c h l = absurd (omega arith)
taken-points (suc k) [] h l = absurd (omega arith)
taken-points (suc k) (t ∷ c) h l = omega (arith, size-positive t)

some-trees : (c : Component) → (points c ≡ 0 → ⊥) → 0 < length c
some-trees [] h = absurd (h refl)
some-trees (t ∷ c) h = omega arith

module _ {s : List ℕ} {at period : ℕ} (w : Along s at (Kept period)) where
  kept-points : at ≡ period + points (drop w.kept.count w.ahead)
  kept-points =
      let k = w.kept.count in
      omega (arith, w.place, w.kept.place, ap points (take-append-drop k w.ahead), points-append (take k w.ahead) (drop k w.ahead))

  pub kept-within : period ≤ at
  kept-within = omega (arith, kept-points)

  -- the tree one period before the place
  pub old : Earlier w.kept.count w.ahead
  old = earlier compare_tree-lawful w.kept.word

  pub old-tree : at < length s → Next s (at - period) (old.letter ∷ (old.later ++ w.rest))
  old-tree h =
      let b = drop w.kept.count w.ahead in
      let v = old.letter ∷ old.later in
      next-tree s (flat b) (at - period) (v ++ w.rest)
      (w.cut ∙ ap (λ l. flat (l ++ w.rest)) old.cut ∙ ap flat (append_assoc b v w.rest) ∙ flat_append b (v ++ w.rest))
      (length-flat b ∙ omega (arith, kept-points))
      (omega arith)

  module _ (n : Next s at w.rest) (o : Next s (at - period) (old.letter ∷ (old.later ++ w.rest))) where
    compared : trees_at s (at - period) at ≡ compare_tree old.letter n.tree
    unfolding compare_tree
    compared = ap₂ (lex compare) (next-stretch o ∙ ap code (sym (head-eq_of_cons-eq o.is))) (next-stretch n)

    -- equal trees: the period stays
    pub kept-equal : trees_at s (at - period) at ≡ Ordering.eq → Along s (at + get_or s at 0) (Kept period)
    kept-equal e =
        let p = w.kept.word in
        along-step w n (Kept period) (record {
          count = w.kept.count;
          word = prenecklace-equal compare_tree-lawful p old n.tree (sym compared ∙ e);
          place = w.kept.place ∙ ap points (sym (take-append-le w.kept.count w.ahead (n.tree ∷ []) p.within));
        })

    -- a greater tree: the period is all trees so far
    pub kept-greater : trees_at s (at - period) at ≡ Ordering.lt → Along s (at + get_or s at 0) (Kept (at + get_or s at 0))
    kept-greater e =
        let a = w.ahead ++ (n.tree ∷ []) in
        along-step w n (Kept (at + get_or s at 0)) (record {
          count = length w.ahead + 1;
          word = prenecklace-greater compare_tree-lawful w.kept.word old n.tree (sym compared ∙ e);
          place = omega (
            arith,
            w.place,
            n.number,
            points-append w.ahead (n.tree ∷ []),
            ap points (take_all (length w.ahead + 1) a (omega (arith, length-append w.ahead (n.tree ∷ [])))),
          );
        })

    -- a smaller tree: a rotation is less
    pub kept-smaller : trees_at s (at - period) at ≡ Ordering.gt → (c : Component) → s ≡ flat c → None ≡ rotation_test c
    unfolding compare_component
    kept-smaller e c q =
        let k = w.kept.count in
        let whole : w.ahead ++ (n.tree ∷ n.later) ≡ c = ap (λ l. w.ahead ++ l) (sym n.is) ∙ along-whole w c q in
        let g = prenecklace-smaller compare_tree-lawful w.kept.word old n.tree (sym compared ∙ e) n.later (take k c) in
        lesser-told c
        (turned-in k c (omega (arith, ap length whole, length-append w.ahead (n.tree ∷ n.later))))
        (ap is_le (ap (λ d. lex compare_tree d (drop k d ++ take k c)) (sym whole) ∙ g))

  -- At the end: the trees are a power of the period, and then a proper beginning of it.
  pub period-some : 0 < period
  period-some =
      let p = w.kept.word in
      omega (arith, w.kept.place, taken-points w.kept.count w.ahead p.positive (omega (arith, p.positive, p.within)))

  module _ (h : length s ≤ at) (c : Component) (q : s ≡ flat c) where
    whole : Period period c
    whole = along-end w h c q

    abbrev trees : Powers (take whole.count c) c
    trees = prenecklace-powers compare_tree-lawful whole.word

    points_are : length s ≡ trees.times * period + points trees.over
    points_are =
        omega (
          arith,
          ap length q,
          length-flat c,
          powers-total trees size,
          ap (λ k. trees.times * k) whole.place,
        )

    over-small : points trees.over < period
    over-small = omega (arith, over-light trees size size-positive, whole.place)

    rest-is : length s % period ≡ points trees.over
    rest-is = ap (λ k. k % period) points_are ∙ mul-add-mod_self_right trees.times period (points trees.over) ∙ mod-eq_of_lt over-small

    times-are : length s / period ≡ trees.times
    times-are =
        ap (λ k. k / period) points_are
        ∙ mul-add-div_right period-some trees.times (points trees.over)
        ∙ ap (λ k. trees.times + k) (div-eq_of_lt over-small)
        ∙ add-zero trees.times

    -- something is over: the rotation that begins after the period is less
    pub kept-cut : (length s % period ≡ 0 → ⊥) → None ≡ rotation_test c
    unfolding compare_component
    kept-cut k =
        let n = whole.count in
        let some : 0 < length trees.over = some-trees trees.over (λ e. k (rest-is ∙ e)) in
        lesser-told c (turned-in n c (omega (arith, whole.word.positive, whole.word.within))) (over-less compare_tree-lawful whole.word trees some)

    -- nothing is over: no rotation is less, and so many equal the component
    pub kept_whole : length s % period ≡ 0 → Some (length s / period) ≡ rotation_test c
    unfolding compare_component
    kept_whole k =
        let none : trees.over ≡ [] = no-trees trees.over (sym rest-is ∙ k) in
        let least : each (at_most compare_component c) (rotations c) ≡ true =
        each-true (at_most compare_component c) (rotations c)
        (λ r m.
        let t = split-of-rotation m in
        ap (at_most compare_component c) t.3 ∙ whole-necklace compare_tree-lawful whole.word trees none t.0 t.1 t.2) in
        let trees_are : length c ≡ trees.times * whole.count = omega (arith, period-count compare_tree-lawful whole.word trees, ap length none) in
        let symmetry = symmetry-is c whole.count trees.times (whole-return compare_tree-lawful whole.word trees none) trees_are in
        ap Some (times-are ∙ sym symmetry) ∙ sym (ap (λ b. then_some b (rotation_symmetry c)) least)

    pub kept-told : then_some (eqb (length s % period) 0) (length s / period) ≡ rotation_test c
    kept-told =
        by-test (eqb (length s % period) 0)
        (λ y. rw y (kept_whole (grind (arith, nat_tests))))
        (λ n. rw n (kept-cut (grind (arith, nat_tests))))
