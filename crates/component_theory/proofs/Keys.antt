-- Which candidates of a component are its children, and the key of a component: the place where it first stands among the candidates
-- of its parent.
use mathlib.Core.Path.{◌≡◌, refl, ap, sym, ◌∙◌}
use mathlib.Core.Bool.{Bool, true, false, ◌&&◌, true≢false}
use mathlib.Core.List.{List, [], ◌∷◌, ◌++◌, map, map-append, append_assoc, head-eq_of_cons-eq, tail-eq_of_cons-eq}
use Prim.Native.Nat.{ℕ, zero, suc, ◌+◌}
use native.Mathlib.Omega.{arith}
use lib.ListN.{length, replicate, length-append, length-map}
use Rattle.lists.specs.Order.{at_most}
use Rattle.lists.specs.Select.{each, place}
use Rattle.lists.proofs.Tests.{◌∈◌, by-test, no_both, either, and-true, is_false, each_append, each-head, each_tail}
use Rattle.lists.proofs.Comparison.{eq-at_most, lt-at_most, at_most-turned, lt-at_most-trans, at_most-anti, same-of-path}
use Rattle.lists.proofs.Members.{in-cons-cases, not-in-nil, in-append-cases, in_moved, of_map}
use Rattle.lists.proofs.Places.{place-split}
use Rattle.patterns.specs.Tree.{Tree, point, merge, size, compare_tree, valid_tree, last_at_most}
use Rattle.patterns.specs.Component.{Component, compare_component, nonempty, rotations, valid_component}
use Rattle.patterns.specs.Generation.{has_parent, parent, right_merges, candidates, is_child}
use Rattle.patterns.proofs.Trees.{compare_tree-lawful, compare_component-lawful, less-merge-right, size-positive, merge-parts}
use Rattle.patterns.proofs.Rotations.{valid-parts}
use Rattle.component_theory.specs.Path.{key}
use Rattle.component_theory.proofs.Lemma8.{ordered, lead-has_parent, parent-lead, nonempty-append}
use Rattle.component_theory.proofs.Children.{component-decides, merges_by, merge_right, left_by, right_by, child-parts}

-- a tree is none of the two it is merged of, and not a point
pub merge-not-left {ℓ} : {P : Type ℓ} (t u : Tree) → merge t u ≡ t → P
merge-not-left t u e = absurd (omega (arith, ap size e, size-positive u))

pub merge-not-right {ℓ} : {P : Type ℓ} (t u : Tree) → merge t u ≡ u → P
merge-not-right t u e = absurd (omega (arith, ap size e, size-positive t))

pub point-not-merge {ℓ} : {P : Type ℓ} (t u : Tree) → point ≡ merge t u → P
point-not-merge t u e = absurd (omega (arith, ap size e, size-positive t, size-positive u))

-- t and u in order are t and u exactly where t ≤ u
pub ordered-kept : (t u : Tree) (r : Component) → at_most compare_tree t u ≡ true → ordered t u r ≡ t ∷ u ∷ r
ordered-kept t u r h = rw h

pub ordered-turned : (t u : Tree) (r : Component) → at_most compare_tree t u ≡ true → ordered u t r ≡ t ∷ u ∷ r
ordered-turned t u r h =
    by-test (at_most compare_tree u t)
    (λ g. let e = at_most-anti compare_tree-lawful t u h g in rw (g, e))
    (λ g. rw g)

pub kept-ordered : (t u : Tree) (r : Component) → ordered t u r ≡ t ∷ u ∷ r → at_most compare_tree t u ≡ true
kept-ordered t u r e =
    by-test (at_most compare_tree t u) (λ h. h)
    (λ h. eq-at_most compare_tree-lawful (sym (head-eq_of_cons-eq (rw h at e))))

pub turned-ordered : (t u : Tree) (r : Component) → ordered u t r ≡ t ∷ u ∷ r → at_most compare_tree t u ≡ true
turned-ordered t u r e =
    by-test (at_most compare_tree u t)
    (λ h. eq-at_most compare_tree-lawful (sym (head-eq_of_cons-eq (rw h at e))))
    (λ h. at_most-turned compare_tree-lawful u t h)

-- a merge whose parent has the same trees in front has only points in front
pub parent-before : (a : Component) (x y : Tree) (r s : Component) → parent (a ++ (merge x y ∷ r)) ≡ a ++ s
    → (a ≡ replicate (length a) point) × (ordered x y r ≡ s)
unfolding parent
parent-before [] x y r s e = (refl, e)
parent-before (point ∷ a) x y r s e =
    let q = parent-before a x y r s (tail-eq_of_cons-eq e) in
    (ap (λ k. point ∷ k) q.0, q.1)
parent-before (merge v z ∷ a) x y r s e =
    by-test (at_most compare_tree v z)
    (λ h. merge-not-left v z (sym (head-eq_of_cons-eq (rw h at e))))
    (λ h. merge-not-right v z (sym (head-eq_of_cons-eq (rw h at e))))

-- a left merge is a child only if all trees before it are points and the two are in order
pub left_place : (a : Component) (t u : Tree) (r : Component) → is_child (a ++ (t ∷ u ∷ r)) (a ++ (merge t u ∷ r)) ≡ true
    → (a ≡ replicate (length a) point) × (at_most compare_tree t u ≡ true)
left_place a t u r e =
    let p = (child-parts (a ++ (t ∷ u ∷ r)) (a ++ (merge t u ∷ r)) e).2 in
    let q = parent-before a t u r (t ∷ u ∷ r) p in
    (q.0, kept-ordered t u r q.1)

-- a right merge too
pub right-place : (a : Component) (t u : Tree) (r : Component) → is_child (a ++ (t ∷ u ∷ r)) (a ++ (merge u t ∷ r)) ≡ true
    → (a ≡ replicate (length a) point) × (at_most compare_tree t u ≡ true)
right-place a t u r e =
    let p = (child-parts (a ++ (t ∷ u ∷ r)) (a ++ (merge u t ∷ r)) e).2 in
    let q = parent-before a u t r (t ∷ u ∷ r) p in
    (q.0, turned-ordered t u r q.1)

-- no rotation of d is less than d
abbrev pub is_least : Component → Bool
is_least d = each (at_most compare_component d) (rotations d)

pub and_right : (b : Bool) → (b && true) ≡ b
and_right true = refl
and_right false = refl

-- a component whose parent is c is a child of c if it is valid
pub child-if-valid : (c d : Component) → has_parent d ≡ true → parent d ≡ c → is_child c d ≡ valid_component d
unfolding is_child
child-if-valid c d h e = rw (h, same-of-path compare_component-lawful e) (and_right (valid_component d && true) ∙ and_right (valid_component d))

-- a component of some trees is valid if these are and no rotation is less
pub valid-if-least : (d : Component) → nonempty d ≡ true → valid_component d ≡ (each valid_tree d && is_least d)
unfolding valid_component
valid-if-least d n = rw n

-- the last branch is less than the tree
pub last-at_most : (t u : Tree) → at_most compare_tree t u ≡ true → last_at_most t u ≡ true
unfolding last_at_most
last-at_most point u h = refl
last-at_most (merge t v) u h = lt-at_most compare_tree-lawful v u (lt-at_most-trans compare_tree-lawful v (merge t v) u (less-merge-right t v) h)

module _ (c : Component) (i : ℕ) (t u : Tree) (r : Component) (e : c ≡ replicate i point ++ (t ∷ u ∷ r)) (v : valid_component c ≡ true) where
  -- the trees of c are valid
  parts-valid : (each valid_tree (replicate i point) ≡ true) × (valid_tree t ≡ true) × (valid_tree u ≡ true) × (each valid_tree r ≡ true)
  parts-valid =
      let trees = (valid-parts c v).1 in
      let q = and-true (each valid_tree (replicate i point)) (each valid_tree (t ∷ u ∷ r))
      (sym (each_append valid_tree (replicate i point) (t ∷ u ∷ r)) ∙ sym (ap (each valid_tree) e) ∙ trees) in
      let s = each_tail valid_tree t (u ∷ r) q.1 in
      (q.0, each-head valid_tree t (u ∷ r) q.1, each-head valid_tree u r s, each_tail valid_tree u r s)

  -- with a merge of two of them, the order of its branches is all there is to test
  trees-valid : (x y : Tree) → valid_tree x ≡ true → valid_tree y ≡ true → each valid_tree (replicate i point ++ (merge x y ∷ r)) ≡ last_at_most x y
  unfolding valid_tree
  trees-valid x y f g =
      each_append valid_tree (replicate i point) (merge x y ∷ r)
      ∙ rw (parts-valid.0, f, g, parts-valid.3) (by-test (last_at_most x y) (λ b. rw b) (λ b. rw b))

  -- a left merge after i points is a valid tree where it may be a child at all: it is one if the two are in order and no rotation is less
  pub left-child : is_child c (replicate i point ++ (merge t u ∷ r)) ≡ (at_most compare_tree t u && is_least (replicate i point ++ (merge t u ∷ r)))
  left-child =
      let d = replicate i point ++ (merge t u ∷ r) in
      by-test (at_most compare_tree t u)
      (λ h.
      let p : parent d ≡ c = parent-lead i t u r ∙ ap (λ k. replicate i point ++ k) (ordered-kept t u r h) ∙ sym e in
      rw h (child-if-valid c d (lead-has_parent i t u r) p ∙ valid-if-least d (nonempty-append (replicate i point) (merge t u) r) ∙ ap (λ b. b && is_least d) (trees-valid t u parts-valid.1 parts-valid.2 ∙ last-at_most t u h)))
      (λ h. rw (h, e) (is_false (is_child (replicate i point ++ (t ∷ u ∷ r)) d) (λ q. no_both (left_place (replicate i point) t u r q).1 h)))

  -- a right merge after i points is a child if the two are in order, the last branch of the second is at most the first, and no rotation is less
  pub right_child : is_child c (replicate i point ++ (merge u t ∷ r))
      ≡ (at_most compare_tree t u && last_at_most u t && is_least (replicate i point ++ (merge u t ∷ r)))
  right_child =
      let d = replicate i point ++ (merge u t ∷ r) in
      by-test (at_most compare_tree t u)
      (λ h.
      let p : parent d ≡ c = parent-lead i u t r ∙ ap (λ k. replicate i point ++ k) (ordered-turned t u r h) ∙ sym e in
      rw h (child-if-valid c d (lead-has_parent i u t r) p ∙ valid-if-least d (nonempty-append (replicate i point) (merge u t) r)
      ∙ ap (λ b. b && is_least d) (trees-valid u t parts-valid.2 parts-valid.1)))
      (λ h. rw (h, e) (is_false (is_child (replicate i point ++ (t ∷ u ∷ r)) d) (λ q. no_both (right-place (replicate i point) t u r q).1 h)))

-- d first stands after i others in l
pub record Placed (d : Component) (l : List Component) (i : ℕ) : Type 0 where
  pub before : List Component
  pub after : List Component
  pub cut : l ≡ before ++ (d ∷ after)
  pub count : length before ≡ i
  pub fresh : d ∈ before → ⊥

-- m never gives a point
abbrev pub Merging : (Tree → Tree → Tree) → Type 0
Merging m = (t u : Tree) → point ≡ m t u → ⊥

pub left-merging : Merging merge
left-merging t u e = point-not-merge t u e

pub right-merging : Merging merge_right
right-merging t u e = point-not-merge u t e

module _ (m : Tree → Tree → Tree) (g : Merging m) where
  -- a merge with a point in front is not a merge of that point
  pub merges-tail : (c d : Component) → (point ∷ d) ∈ merges_by m (point ∷ c) → d ∈ merges_by m c
  merges-tail [] d k = not-in-nil k
  merges-tail (x ∷ c) d k =
      either (in-cons-cases k)
      (λ e. absurd (g point x (head-eq_of_cons-eq e)))
      (λ i. let q = of_map (point ∷◌) (merges_by m (x ∷ c)) i in in_moved (sym (tail-eq_of_cons-eq q.2)) q.1)

  placed-next : (c d : Component) (i : ℕ) → nonempty c ≡ true → Placed d (merges_by m c) i → Placed (point ∷ d) (merges_by m (point ∷ c)) (suc i)
  placed-next [] d i n p = absurd (true≢false (sym n))
  placed-next (x ∷ c) d i n p = record {
    before = (m point x ∷ c) ∷ map (point ∷◌) p.before;
    after = map (point ∷◌) p.after;
    cut = ap (λ l. (m point x ∷ c) ∷ l) (ap (map (point ∷◌)) p.cut ∙ map-append (point ∷◌) p.before (d ∷ p.after));
    count = ap suc (length-map p.before (point ∷◌) ∙ p.count);
    fresh = λ k. either (in-cons-cases k)
        (λ e. g point x (head-eq_of_cons-eq e))
        (λ j. let q = of_map (point ∷◌) p.before j in p.fresh (in_moved (sym (tail-eq_of_cons-eq q.2)) q.1));
  }

  -- a merge after i points first stands at place i
  pub placed-merge : (i : ℕ) (t u : Tree) (r : Component) → Placed (replicate i point ++ (m t u ∷ r)) (merges_by m (replicate i point ++ (t ∷ u ∷ r))) i
  placed-merge zero t u r = record {
    before = [];
    after = map (t ∷◌) (merges_by m (u ∷ r));
    cut = refl;
    count = refl;
    fresh = λ k. not-in-nil k;
  }
  placed-merge (suc i) t u r =
      placed-next (replicate i point ++ (t ∷ u ∷ r)) (replicate i point ++ (m t u ∷ r)) i
      (nonempty-append (replicate i point) t (u ∷ r)) (placed-merge i t u r)

-- as many merges as pairs of neighbours
pub length-merges : (m : Tree → Tree → Tree) (c : Component) → nonempty c ≡ true → suc (length (merges_by m c)) ≡ length c
length-merges m [] n = absurd (true≢false (sym n))
length-merges m (x ∷ []) n = refl
length-merges m (x ∷ y ∷ c) n = ap suc (ap suc (length-map (merges_by m (y ∷ c)) (x ∷◌)) ∙ length-merges m (y ∷ c) refl)

-- a right merge of two different trees is no left merge
pub not_left : (i : ℕ) (t u : Tree) (r : Component) → (t ≡ u → ⊥) → (replicate i point ++ (merge t u ∷ r)) ∈ merges_by merge (replicate i point ++ (u ∷ t ∷ r)) → ⊥
not_left zero t u r n k =
    either (in-cons-cases k)
    (λ e. n (merge-parts (head-eq_of_cons-eq e)).0)
    (λ j. let q = of_map (u ∷◌) (merges_by merge (t ∷ r)) j in merge-not-right t u (head-eq_of_cons-eq q.2))
not_left (suc i) t u r n k =
    not_left i t u r n (merges-tail merge left-merging (replicate i point ++ (u ∷ t ∷ r)) (replicate i point ++ (merge t u ∷ r)) k)

-- the place of what stands in the first or in the second of two lists
pub placed-left : (d : Component) (l k : List Component) (i : ℕ) → Placed d l i → place compare_component d (l ++ k) ≡ i
placed-left d l k i p =
    ap (λ z. place compare_component d (z ++ k)) p.cut
    ∙ ap (place compare_component d) (append_assoc p.before (d ∷ p.after) k)
    ∙ place-split component-decides p.before d (p.after ++ k) p.fresh
    ∙ p.count

pub placed-right : (d : Component) (l k : List Component) (i : ℕ) → (d ∈ l → ⊥) → Placed d k i → place compare_component d (l ++ k) ≡ length l + i
placed-right d l k i n p =
    ap (λ z. place compare_component d (l ++ z)) p.cut
    ∙ ap (place compare_component d) (sym (append_assoc l p.before (d ∷ p.after)))
    ∙ place-split component-decides (l ++ p.before) d p.after
    (λ q. either (in-append-cases l q) n p.fresh)
    ∙ length-append l p.before ∙ ap (λ z. length l + z) p.count

-- where a left merge and a right merge after i points first stand among the candidates
pub left-candidate-place : (i : ℕ) (t u : Tree) (r : Component)
    → place compare_component (replicate i point ++ (merge t u ∷ r)) (candidates (replicate i point ++ (t ∷ u ∷ r))) ≡ i
left-candidate-place i t u r =
    let c = replicate i point ++ (t ∷ u ∷ r) in
    rw (left_by c) (placed-left (replicate i point ++ (merge t u ∷ r)) (merges_by merge c) (right_merges c) i (placed-merge merge left-merging i t u r))

pub right-candidate-place : (i : ℕ) (t u : Tree) (r : Component) → (u ≡ t → ⊥)
    → place compare_component (replicate i point ++ (merge u t ∷ r)) (candidates (replicate i point ++ (t ∷ u ∷ r)))
    ≡ length (replicate i point ++ (merge u t ∷ r)) + i
right-candidate-place i t u r n =
    let d = replicate i point ++ (merge u t ∷ r) in
    let c = replicate i point ++ (t ∷ u ∷ r) in
    let size_of : length (merges_by merge c) ≡ length d =
    omega (
      arith,
      length-merges merge c (nonempty-append (replicate i point) t (u ∷ r)),
      length-append (replicate i point) (t ∷ u ∷ r),
      length-append (replicate i point) (merge u t ∷ r),
    ) in
    rw (left_by c, right_by c)
    (placed-right d (merges_by merge c) (merges_by merge_right c) i (not_left i u t r n) (placed-merge merge_right right-merging i t u r)
    ∙ ap (λ k. k + i) size_of)

-- the key of a left merge is the number of leading points
pub key_left : (i : ℕ) (t u : Tree) (r : Component) → at_most compare_tree t u ≡ true → key (replicate i point ++ (merge t u ∷ r)) ≡ i
key_left i t u r h =
    let p = parent-lead i t u r ∙ ap (λ k. replicate i point ++ k) (ordered-kept t u r h) in
    rw p (left-candidate-place i t u r)

-- the key of a right merge is the number of trees and of leading points together
pub key_right : (i : ℕ) (t u : Tree) (r : Component) → at_most compare_tree t u ≡ false
    → key (replicate i point ++ (merge t u ∷ r)) ≡ length (replicate i point ++ (merge t u ∷ r)) + i
key_right i t u r h =
    let p = parent-lead i t u r ∙ ap (λ k. replicate i point ++ k) (ordered-turned u t r (at_most-turned compare_tree-lawful t u h)) in
    rw p (right-candidate-place i u t r (λ e. no_both (eq-at_most compare_tree-lawful e) h))
