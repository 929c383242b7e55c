-- Document 004, Definition 10 and Lemma 12: the candidates of a component by splits, and its children: the valid components whose parent it is.
use mathlib.Core.Path.{◌≡◌, refl, ap, sym, ◌∙◌}
use mathlib.Core.Bool.{true, ◌&&◌}
use mathlib.Core.List.{List, [], ◌∷◌, ◌++◌, map}
use lib.ListN.{replicate}
use Rattle.lists.specs.Order.{at_most, same}
use Rattle.lists.specs.Select.{keep}
use Rattle.lists.proofs.Tests.{◌∈◌, by-test, and-true, true-and}
use Rattle.lists.proofs.Comparison.{same_true, same-of-path}
use Rattle.lists.proofs.Members.{Decides, NoDup, lawful-decides, in_head, in_tail, in_list, in_moved, in_append_left, in_append_right, in_map, in-keep, of-keep, of-once, in-once, nodup-once}
use Rattle.patterns.specs.Tree.{Tree, point, merge, compare_tree}
use Rattle.patterns.specs.Component.{Component, compare_component, valid_component}
use Rattle.patterns.specs.Generation.{has_parent, parent, left_merges, right_merges, candidates, is_child, children}
use Rattle.component_theory.proofs.Lemma8.{ordered, lead, parent-lead}
use Rattle.patterns.proofs.Trees.{compare_component-lawful}

-- Definition 10 for both ways of merging: m of two neighbours in their place
abbrev pub merges_by : (Tree → Tree → Tree) → Component → List Component
merges_by m [] = []
merges_by m (t ∷ []) = []
merges_by m (t ∷ u ∷ ts) = (m t u ∷ ts) ∷ map (t ∷◌) (merges_by m (u ∷ ts))

-- the right neighbour takes the left one as its last branch
abbrev pub merge_right : Tree → Tree → Tree
merge_right t u = merge u t

pub left_by : (c : Component) → left_merges c ≡ merges_by merge c
left_by [] = refl
left_by (t ∷ []) = refl
left_by (t ∷ u ∷ c) = ap (λ l. (merge t u ∷ c) ∷ map (t ∷◌) l) (left_by (u ∷ c))

pub right_by : (c : Component) → right_merges c ≡ merges_by merge_right c
right_by [] = refl
right_by (t ∷ []) = refl
right_by (t ∷ u ∷ c) = ap (λ l. (merge u t ∷ c) ∷ map (t ∷◌) l) (right_by (u ∷ c))

-- a split of c gives a member
pub in-merges : (m : Tree → Tree → Tree) (a : Component) (t u : Tree) (r : Component) → (a ++ (m t u ∷ r)) ∈ merges_by m (a ++ (t ∷ u ∷ r))
in-merges m [] t u r = in_head
in-merges m (x ∷ []) t u r = in_tail (in_map (x ∷◌) (in-merges m [] t u r))
in-merges m (x ∷ y ∷ a) t u r = in_tail (in_map (x ∷◌) (in-merges m (y ∷ a) t u r))

-- components are told apart by their comparison
pub component-decides : Decides compare_component
component-decides = lawful-decides compare_component-lawful

-- d is a child of c: it is valid, and c is its parent
pub child-parts : (c d : Component) → is_child c d ≡ true → (valid_component d ≡ true) × (has_parent d ≡ true) × (parent d ≡ c)
unfolding is_child
child-parts c d e =
    let a = and-true (valid_component d && has_parent d) (same compare_component (parent d) c) e in
    let b = and-true (valid_component d) (has_parent d) a.0 in
    (b.0, b.1, same_true compare_component-lawful (parent d) c a.1)

pub parts-child : (c d : Component) → valid_component d ≡ true → has_parent d ≡ true → parent d ≡ c → is_child c d ≡ true
unfolding is_child
parts-child c d v h e = true-and (true-and v h) (same-of-path compare_component-lawful e)

-- Lemma 12: a component that has a parent is one of its parent's candidates
pub in-candidates : (d : Component) → has_parent d ≡ true → d ∈ candidates (parent d)
in-candidates d h =
    let s = lead d h in
    let P = replicate s.leading point in
    let t = s.left in let u = s.right in let r = s.rest in
    let p : parent d ≡ P ++ ordered t u r = ap parent s.split ∙ parent-lead s.leading t u r in
    in_moved (sym s.split) (in_list (ap candidates (sym p))
    (by-test (at_most compare_tree t u)
    (λ e. rw e (in_append_left (right_merges (P ++ (t ∷ u ∷ r))) (in_list (sym (left_by (P ++ (t ∷ u ∷ r)))) (in-merges merge P t u r))))
    (λ e. rw e (in_append_right (left_merges (P ++ (u ∷ t ∷ r))) (in_list (sym (right_by (P ++ (u ∷ t ∷ r)))) (in-merges merge_right P u t r))))))

-- Lemma 12: a valid component that has a parent is a child of its parent
pub child-candidate : (d : Component) → valid_component d ≡ true → has_parent d ≡ true → d ∈ children (parent d)
unfolding children
child-candidate d v h =
    in-once component-decides
    (in-keep (is_child (parent d)) (in-candidates d h) (parts-child (parent d) d v h refl))

-- a child is a candidate that passes
pub children-candidate : (c d : Component) → d ∈ children c → (d ∈ candidates c) × (is_child c d ≡ true)
unfolding children
children-candidate c d m = of-keep (is_child c) (candidates c) (of-once compare_component (keep (is_child c) (candidates c)) m)

-- every child is valid, and c is its parent
pub children-parent : (c d : Component) → d ∈ children c → (valid_component d ≡ true) × (has_parent d ≡ true) × (parent d ≡ c)
children-parent c d m = child-parts c d (children-candidate c d m).1

-- no child stands twice
pub children-once : (c : Component) → NoDup (children c)
unfolding children
children-once c = nodup-once component-decides (keep (is_child c) (candidates c))
