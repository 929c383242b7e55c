-- The children of a component, found place by place among its candidates: which places can hold a child, and that the first child and the next
-- sibling are the first child from a place on, or backward the last one before a place. Throughout, n is the number of pairs of neighbours: places below n are left merges, and from n on
-- come the right merges.
use mathlib.Core.Path.{◌≡◌, refl, ap, ap₂, sym, ◌∙◌}
use mathlib.Core.Bool.{true, false, not, cond, ◌&&◌}
use mathlib.Core.List.{List, [], ◌∷◌, ◌++◌, map, map-append, append_assoc, reverse, reverse-append, head-eq_of_cons-eq, tail-eq_of_cons-eq}
use mathlib.Core.Option.{none}
use Prim.Native.Nat.{ℕ, zero, suc, ◌+◌, ◌-◌, ◌≤◌, ◌<◌}
use native.Mathlib.Omega.{arith}
use lib.Dec.{eqb, leb}
use borrow.Author.Tests.{eq-eqb, ne_eqb, leb-true, leb-false}
use lib.ListN.{length, get_or, replicate, length-append, length-map, length-replicate}
use lib.Seq.{get_or-append_seam}
use Rattle.lists.specs.Order.{at_most}
use Rattle.lists.specs.Select.{gather, range, place, new_at, first}
use Rattle.lists.proofs.Tests.{by-test, no_both, is_false}
use Rattle.lists.proofs.Comparison.{eq-at_most, at_most-anti, at_most-self, at_most-turned}
use Rattle.lists.proofs.Members.{gather_append}
use Rattle.lists.proofs.Places.{range_last}
use Rattle.lists.proofs.Follow.{otherwise, first-append}
use Rattle.patterns.specs.Tree.{Tree, point, merge, compare_tree, last_at_most}
use Rattle.patterns.specs.Component.{Component, compare_component, valid_component}
use Rattle.patterns.specs.Generation.{has_parent, parent, left_merges, right_merges, candidates, is_child}
use Rattle.patterns.proofs.Trees.{compare_tree-lawful}
use Rattle.component_theory.specs.ChildPlaces.{child_at, child_from, child_before}
use Rattle.component_theory.specs.Successor.{first_child, next_sibling}
use Rattle.lists.proofs.Passing.{once-keep, once-next, once-previous}
use Rattle.component_theory.proofs.Lemma8.{nonempty-append}
use Rattle.component_theory.proofs.Children.{component-decides, merges_by, merge_right, left_by, right_by, child-candidate, children-candidate}
use Rattle.component_theory.specs.Path.{key}
use Rattle.component_theory.proofs.Keys.{is_least, length-merges, left_place, right-place, left-child, right_child, point-not-merge, and_right, left-candidate-place, right-candidate-place}

-- the first child is the first from place 0 on
pub first_child-place : (c : Component) → first_child true c ≡ child_from c 0
unfolding first_child child_from
first_child-place c =
    let e : length (candidates c) ≡ length (candidates c) - 0 = omega arith in
    ap first (once-keep component-decides (is_child c) [] (candidates c))
    ∙ ap (λ n. first (gather (child_at c) (range 0 n))) e

-- the next sibling is the first child of the parent from the place after the key on
pub next_sibling-place : (d : Component) → valid_component d ≡ true → has_parent d ≡ true → next_sibling true d ≡ child_from (parent d) (suc (key d))
unfolding next_sibling child_from
next_sibling-place d v h =
    let r = children-candidate (parent d) d (child-candidate d v h) in
    rw h (once-next component-decides (is_child (parent d)) [] r.0 r.1)

-- backward, the first child is the last one before the end
pub last_child-place : (c : Component) → first_child false c ≡ child_before c (length (candidates c))
unfolding first_child child_before
last_child-place c = ap (λ l. first (reverse l)) (once-keep component-decides (is_child c) [] (candidates c))

-- and the next sibling is the last child of the parent before the key
pub previous_sibling-place : (d : Component) → valid_component d ≡ true → has_parent d ≡ true → next_sibling false d ≡ child_before (parent d) (key d)
unfolding next_sibling child_before
previous_sibling-place d v h =
    let r = children-candidate (parent d) d (child-candidate d v h) in
    rw h (once-previous component-decides (is_child (parent d)) [] r.0 r.1)

-- from the end on there is no child
pub child_from-end : (c : Component) (k : ℕ) → length (candidates c) ≤ k → child_from c k ≡ none
unfolding child_from
child_from-end c k h =
    let e : length (candidates c) - k ≡ 0 = omega arith in
    ap (λ n. first (gather (child_at c) (range k n))) e

-- before the end: the child at k, or else the first from the next place on
pub child_from-step : (c : Component) (k : ℕ) → k < length (candidates c) → child_from c k ≡ otherwise (first (child_at c k)) (child_from c (suc k))
unfolding child_from
child_from-step c k h =
    let e : length (candidates c) - k ≡ suc (length (candidates c) - suc k) = omega arith in
    ap (λ n. first (gather (child_at c) (range k n))) e
    ∙ first-append (child_at c k) (gather (child_at c) (range (suc k) (length (candidates c) - suc k)))

-- places without a child are passed over
pub child_from-skip : (c : Component) (k j : ℕ) → ((i : ℕ) → k ≤ i → i < k + j → child_at c i ≡ []) → child_from c k ≡ child_from c (k + j)
child_from-skip c k zero h = let e : k ≡ k + 0 = omega arith in ap (child_from c) e
child_from-skip c k (suc j) h =
    let e : suc k + j ≡ k + suc j = omega arith in
    by-test (leb (length (candidates c)) k)
    (λ t. let g = leb-true (length (candidates c)) k t in child_from-end c k g ∙ sym (child_from-end c (k + suc j) (omega arith)))
    (λ t.
    let g = leb-false (length (candidates c)) k t in
    child_from-step c k g ∙ ap (λ l. otherwise (first l) (child_from c (suc k))) (h k (omega arith) (omega arith))
    ∙ child_from-skip c (suc k) j (λ i a b. h i (omega arith) (omega arith)) ∙ ap (child_from c) e)

-- before place 0 there is no child
pub child_before-start : (c : Component) → child_before c 0 ≡ none
unfolding child_before
child_before-start c = refl

-- a place has at most one child
child_at-alone : (c : Component) (k : ℕ) → reverse (child_at c k ++ []) ≡ child_at c k
unfolding child_at new_at
child_at-alone c k =
    let d = get_or (candidates c) k [] in
    by-test (is_child c d && eqb (place compare_component d (candidates c)) k) (λ t. rw t) (λ t. rw t)

-- before the next place: the child at k, or else the last before k
pub child_before-step : (c : Component) (k : ℕ) → child_before c (suc k) ≡ otherwise (first (child_at c k)) (child_before c k)
unfolding child_before
child_before-step c k =
    let e : 0 + k ≡ k = omega arith in
    let G = gather (child_at c) (range 0 k) in
    ap (λ l. first (reverse (gather (child_at c) l))) (range_last 0 k ∙ ap (λ i. range 0 k ++ (i ∷ [])) e)
    ∙ ap (λ l. first (reverse l)) (gather_append (child_at c) (range 0 k) (k ∷ []))
    ∙ ap first (reverse-append G (child_at c k ++ []))
    ∙ ap (λ l. first (l ++ reverse G)) (child_at-alone c k)
    ∙ first-append (child_at c k) (reverse G)

-- places without a child are passed over
pub child_before-skip : (c : Component) (k j : ℕ) → ((i : ℕ) → k ≤ i → i < k + j → child_at c i ≡ []) → child_before c (k + j) ≡ child_before c k
child_before-skip c k zero h = let e : k + 0 ≡ k = omega arith in ap (child_before c) e
child_before-skip c k (suc j) h =
    let e : k + suc j ≡ suc (k + j) = omega arith in
    ap (child_before c) e ∙ child_before-step c (k + j)
    ∙ ap (λ l. otherwise (first l) (child_before c (k + j))) (h (k + j) (omega arith) (omega arith))
    ∙ child_before-skip c k j (λ i a b. h i a (omega arith))

-- as many candidates as twice the pairs
pub length-candidates : (c : Component) (n : ℕ) → length c ≡ suc n → length (candidates c) ≡ n + n
length-candidates [] n e = absurd (omega arith)
length-candidates (x ∷ c) n e =
    omega (
      arith,
      length-append (left_merges (x ∷ c)) (right_merges (x ∷ c)),
      ap length (left_by (x ∷ c)),
      ap length (right_by (x ∷ c)),
      length-merges merge (x ∷ c) refl,
      length-merges merge_right (x ∷ c) refl,
    )

cut-next : (m : Tree → Tree → Tree) (z y : Tree) (c d a : Component)
    → (p : List Component) × (q : List Component) × (merges_by m (y ∷ c) ≡ p ++ (d ∷ q)) × (length p ≡ length a)
    → (p : List Component) × (q : List Component) × (merges_by m (z ∷ y ∷ c) ≡ p ++ ((z ∷ d) ∷ q)) × (length p ≡ suc (length a))
cut-next m z y c d a s = (
  (m z y ∷ c) ∷ map (z ∷◌) s.0,
  map (z ∷◌) s.1,
  ap (λ l. (m z y ∷ c) ∷ l) (ap (map (z ∷◌)) s.2 ∙ map-append (z ∷◌) s.0 (d ∷ s.1)),
  ap suc (length-map s.0 (z ∷◌) ∙ s.3),
)

-- the merge of a pair stands at the place that counts the trees before it
pub merges-cut : (m : Tree → Tree → Tree) (a : Component) (t u : Tree) (r : Component)
    → (x : List Component) × (y : List Component) × (merges_by m (a ++ (t ∷ u ∷ r)) ≡ x ++ ((a ++ (m t u ∷ r)) ∷ y)) × (length x ≡ length a)
merges-cut m [] t u r = ([], map (t ∷◌) (merges_by m (u ∷ r)), refl, refl)
merges-cut m (z ∷ []) t u r = cut-next m z t (u ∷ r) (m t u ∷ r) [] (merges-cut m [] t u r)
merges-cut m (z ∷ z' ∷ a) t u r = cut-next m z z' (a ++ (t ∷ u ∷ r)) (z' ∷ (a ++ (m t u ∷ r))) (z' ∷ a) (merges-cut m (z' ∷ a) t u r)

-- the candidate at place k is a child there if it is one and has not stood before
pub child_at-cut : (c d : Component) (x y : List Component) (k : ℕ) → candidates c ≡ x ++ (d ∷ y) → length x ≡ k
    → child_at c k ≡ cond (is_child c d && eqb (place compare_component d (candidates c)) k) (d ∷ []) []
unfolding child_at
child_at-cut c d x y k e h =
    let g : get_or (candidates c) k [] ≡ d = ap₂ (λ l j. get_or l j []) e (sym h) ∙ get_or-append_seam x d y [] in
    ap (λ z. cond (is_child c z && eqb (place compare_component z (candidates c)) k) (z ∷ []) []) g

-- where the candidate is no child, there is none at its place
pub child_at-none : (c d : Component) (x y : List Component) (k : ℕ) → candidates c ≡ x ++ (d ∷ y) → length x ≡ k → is_child c d ≡ false → child_at c k ≡ []
child_at-none c d x y k e h f = child_at-cut c d x y k e h ∙ rw f

-- the left and the right merge of a pair among the candidates
left_cut : (a : Component) (t u : Tree) (r : Component)
    → (x : List Component) × (y : List Component) × (candidates (a ++ (t ∷ u ∷ r)) ≡ x ++ ((a ++ (merge t u ∷ r)) ∷ y)) × (length x ≡ length a)
left_cut a t u r =
    let c = a ++ (t ∷ u ∷ r) in
    let s = merges-cut merge a t u r in (
      s.0,
      s.1 ++ right_merges c,
      ap (λ l. l ++ right_merges c) (left_by c ∙ s.2) ∙ append_assoc s.0 ((a ++ (merge t u ∷ r)) ∷ s.1) (right_merges c),
      s.3,
    )

right-cut : (a : Component) (t u : Tree) (r : Component) (n : ℕ) → length (a ++ (t ∷ u ∷ r)) ≡ suc n
    → (x : List Component) × (y : List Component) × (candidates (a ++ (t ∷ u ∷ r)) ≡ x ++ ((a ++ (merge u t ∷ r)) ∷ y)) × (length x ≡ n + length a)
right-cut a t u r n e =
    let c = a ++ (t ∷ u ∷ r) in
    let s = merges-cut merge_right a t u r in (
      left_merges c ++ s.0,
      s.1,
      ap (λ l. left_merges c ++ l) (right_by c ∙ s.2) ∙ sym (append_assoc (left_merges c) s.0 ((a ++ (merge u t ∷ r)) ∷ s.1)),
      omega (arith, length-append (left_merges c) s.0, s.3, ap length (left_by c), length-merges merge c (nonempty-append a t (u ∷ r))),
    )

module _ (c : Component) (v : valid_component c ≡ true) (n : ℕ) (l : length c ≡ suc n) (i : ℕ) (t u : Tree) (r : Component)
    (e : c ≡ replicate i point ++ (t ∷ u ∷ r)) where
  -- place i, after i points: the left merge, if the two are in order and no rotation is less
  pub child_at-left : let d = replicate i point ++ (merge t u ∷ r) in
      child_at c i ≡ cond (at_most compare_tree t u && is_least d) (d ∷ []) []
  child_at-left =
      let d = replicate i point ++ (merge t u ∷ r) in
      let s = left_cut (replicate i point) t u r in
      let q = ap (λ k. place compare_component d (candidates k)) e ∙ left-candidate-place i t u r in
      child_at-cut c d s.0 s.1 i (ap candidates e ∙ s.2) (s.3 ∙ length-replicate i point)
      ∙ ap (λ b. cond b (d ∷ []) [])
      (ap₂ ◌&&◌ (left-child c i t u r e v) (eq-eqb (place compare_component d (candidates c)) i q) ∙ and_right (at_most compare_tree t u && is_least d))

  -- place n + i, after i points: the right merge, if the first is less than the second, the last branch of the second is at most the first, and
  -- no rotation is less; two equal trees have one merge, the left one
  pub child_at-right : let d = replicate i point ++ (merge u t ∷ r) in
      child_at c (n + i) ≡ cond (not (at_most compare_tree u t) && last_at_most u t && is_least d) (d ∷ []) []
  child_at-right =
      let d = replicate i point ++ (merge u t ∷ r) in
      let len = ap length (sym e) ∙ l in
      let s = right-cut (replicate i point) t u r n len in
      let k : length s.0 ≡ n + i = s.3 ∙ ap (λ j. n + j) (length-replicate i point) in
      let cut = ap candidates e ∙ s.2 in
      by-test (at_most compare_tree u t)
      (λ g. rw g (by-test (at_most compare_tree t u)
      (λ h.
      let q = at_most-anti compare_tree-lawful t u h g in
      let same_place : place compare_component d (candidates c) ≡ i =
      ap₂ (λ x k. place compare_component x (candidates k)) (ap₂ (λ x y. replicate i point ++ (merge x y ∷ r)) (sym q) q) e
      ∙ left-candidate-place i t u r in
      let two : length (replicate i point ++ (t ∷ u ∷ r)) ≡ length (replicate i point) + suc (suc (length r)) = length-append (replicate i point) (t ∷ u ∷ r) in
      child_at-cut c d s.0 s.1 (n + i) cut k
      ∙ ap (λ b. cond (is_child c d && b) (d ∷ []) []) (ne_eqb (place compare_component d (candidates c)) (n + i) (λ z. omega arith))
      ∙ by-test (is_child c d) (λ x. rw x) (λ x. rw x))
      (λ h. child_at-none c d s.0 s.1 (n + i) cut k (right_child c i t u r e v ∙ rw h))))
      (λ g. rw g
      (let h = at_most-turned compare_tree-lawful u t g in
      let q : place compare_component d (candidates c) ≡ length d + i =
      ap (λ x. place compare_component d (candidates x)) e
      ∙ right-candidate-place i t u r (λ x. no_both (eq-at_most compare_tree-lawful x) g) in
      let here : place compare_component d (candidates c) ≡ n + i =
      omega (arith, length-append (replicate i point) (t ∷ u ∷ r), length-append (replicate i point) (merge u t ∷ r)) in
      child_at-cut c d s.0 s.1 (n + i) cut k
      ∙ ap (λ b. cond b (d ∷ []) [])
      (ap₂ ◌&&◌ (right_child c i t u r e v ∙ ap (λ b. b && last_at_most u t && is_least d) h) (eq-eqb (place compare_component d (candidates c)) (n + i) here)
      ∙ and_right (last_at_most u t && is_least d))))

-- the pair of neighbours at i
pair-at : (c : Component) (i : ℕ) → suc i < length c
    → (a : Component) × (t : Tree) × (u : Tree) × (r : Component) × (c ≡ a ++ (t ∷ u ∷ r)) × (length a ≡ i)
pair-at [] i h = absurd (omega arith)
pair-at (t ∷ []) zero h = absurd (omega arith)
pair-at (t ∷ u ∷ r) zero h = ([], t, u, r, refl, refl)
pair-at (x ∷ c) (suc i) h =
    let s = pair-at c i (omega arith) in
    (x ∷ s.0, s.1, s.2, s.3, ap (λ k. x ∷ k) s.4, ap suc s.5)

-- a tree of more than one point is not among leading points
not-leading : (j : ℕ) (q b : Component) (x y : Tree) (s : Component) → replicate j point ++ q ≡ b ++ (merge x y ∷ s) → length b < j → ⊥
not-leading zero q b x y s e h = omega arith
not-leading (suc j) q [] x y s e h = point-not-merge x y (head-eq_of_cons-eq e)
not-leading (suc j) q (z ∷ b) x y s e h = not-leading j q b x y s (tail-eq_of_cons-eq e) (omega arith)

-- behind the leftmost tree of more than one point there is no child
pub child_at-late : (c b : Component) (x y : Tree) (s : Component) (n i : ℕ) → c ≡ b ++ (merge x y ∷ s) → length c ≡ suc n → length b < i → i < n
    → (child_at c i ≡ []) × (child_at c (n + i) ≡ [])
child_at-late c b x y s n i e l h k =
    let p = pair-at c i (omega arith) in
    let a = p.0 in let t = p.1 in let u = p.2 in let r = p.3 in
    let f : c ≡ a ++ (t ∷ u ∷ r) = p.4 in
    let bad : (a ≡ replicate (length a) point) → ⊥ =
    (λ q. not-leading (length a) (t ∷ u ∷ r) b x y s (ap (λ z. z ++ (t ∷ u ∷ r)) (sym q) ∙ sym f ∙ e) (omega (arith, p.5))) in
    let left = left_cut a t u r in
    let right = right-cut a t u r n (ap length (sym f) ∙ l) in (
      child_at-none c (a ++ (merge t u ∷ r)) left.0 left.1 i (ap candidates f ∙ left.2) (left.3 ∙ p.5)
          (ap (λ z. is_child z (a ++ (merge t u ∷ r))) f
          ∙ is_false (is_child (a ++ (t ∷ u ∷ r)) (a ++ (merge t u ∷ r))) (λ q. bad (left_place a t u r q).0)),
      child_at-none c (a ++ (merge u t ∷ r)) right.0 right.1 (n + i) (ap candidates f ∙ right.2) (right.3 ∙ ap (λ z. n + z) p.5)
          (ap (λ z. is_child z (a ++ (merge u t ∷ r))) f
          ∙ is_false (is_child (a ++ (t ∷ u ∷ r)) (a ++ (merge u t ∷ r))) (λ q. bad (right-place a t u r q).0)),
    )

-- h leading points, of which the one at i has another behind it
points-pair : (h i : ℕ) (q : Component) → suc i < h → (r : Component) × (replicate h point ++ q ≡ replicate i point ++ (point ∷ point ∷ r))
points-pair zero i q l = absurd (omega arith)
points-pair (suc zero) i q l = absurd (omega arith)
points-pair (suc (suc h)) zero q l = (replicate h point ++ q, refl)
points-pair (suc (suc h)) (suc i) q l = let s = points-pair (suc h) i q (omega arith) in (s.0, ap (λ k. point ∷ k) s.1)

module _ (c : Component) (v : valid_component c ≡ true) (n : ℕ) (l : length c ≡ suc n) where
  -- a right merge of two points is their left merge
  pub child_at-points : (h i : ℕ) (q : Component) → c ≡ replicate h point ++ q → suc i < h → child_at c (n + i) ≡ []
  child_at-points h i q e k =
      let s = points-pair h i q k in
      child_at-right c v n l i point point s.0 (e ∙ s.1) ∙ rw (at_most-self compare_tree-lawful point)

  module _ (h : ℕ) (x y : Tree) (s : Component) (e : c ≡ replicate h point ++ (merge x y ∷ s)) where
    -- no left merge behind the leading points and the tree after them
    pub child_from-lefts : (k : ℕ) → h < k → k ≤ n → child_from c k ≡ child_from c n
    child_from-lefts k a b =
        let z : k + (n - k) ≡ n = omega arith in
        child_from-skip c k (n - k)
        (λ i f g. (child_at-late c (replicate h point) x y s n i e l (omega (arith, length-replicate h point)) (omega arith)).0)
        ∙ ap (child_from c) z

    -- and no right merge either
    pub child_from-past : (k : ℕ) → n + h < k → child_from c k ≡ none
    child_from-past k a =
        child_from-skip c k (n + n - k)
        (λ i f g.
        let z : n + (i - n) ≡ i = omega arith in
        ap (child_at c) (sym z)
        ∙ (child_at-late c (replicate h point) x y s n (i - n) e l (omega (arith, length-replicate h point)) (omega arith)).1)
        ∙ child_from-end c (k + (n + n - k)) (omega (arith, length-candidates c n l))

    -- so the last child before a place behind them is the last one before the place after them, among the left merges
    pub child_before-lefts : (k : ℕ) → h < k → k ≤ n → child_before c k ≡ child_before c (h + 1)
    child_before-lefts k a b =
        let z : h + 1 + (k - (h + 1)) ≡ k = omega arith in
        ap (child_before c) (sym z)
        ∙ child_before-skip c (h + 1) (k - (h + 1))
        (λ i f g. (child_at-late c (replicate h point) x y s n i e l (omega (arith, length-replicate h point)) (omega arith)).0)

    -- and among the right merges
    pub child_before-rights : (k : ℕ) → h < k → k ≤ n → child_before c (n + k) ≡ child_before c (n + (h + 1))
    child_before-rights k a b =
        let z : n + (h + 1) + (k - (h + 1)) ≡ n + k = omega arith in
        ap (child_before c) (sym z)
        ∙ child_before-skip c (n + (h + 1)) (k - (h + 1))
        (λ i f g.
        let z : n + (i - n) ≡ i = omega arith in
        ap (child_at c) (sym z)
        ∙ (child_at-late c (replicate h point) x y s n (i - n) e l (omega (arith, length-replicate h point)) (omega arith)).1)
