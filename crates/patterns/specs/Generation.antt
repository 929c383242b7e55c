-- The order in which the components of n points are generated: document 004, Lemma 8, Definition 10, Lemma 12, Theorem 13 and Figure 2;
-- document 01, "Generation order of components with n points".
use Rattle.std.specs.Prelude.{Bool, true, false, cond, ◌&&◌, List, [], ◌∷◌, ◌++◌, map, ℕ, zero, suc, replicate}
use Rattle.lists.specs.Order.{at_most, same}
use Rattle.lists.specs.Select.{keep, gather, once, some_of}
use Rattle.patterns.specs.Tree.{Tree, point, merge, compare_tree}
use Rattle.patterns.specs.Component.{Component, compare_component, valid_component}

abbrev pub is_merge : Tree → Bool
is_merge point = false
is_merge (merge t u) = true

-- some tree has more than one point; the cycle of n points has no parent
abbrev pub has_parent : Component → Bool
has_parent c = some_of is_merge c

-- Lemma 8: the leftmost tree of more than one point is unmerged, and both parts stand in its place, the lesser first
unfoldable pub parent : Component → Component
unfolding compare_tree
parent [] = []
parent (point ∷ ts) = point ∷ parent ts
parent (merge t u ∷ ts) = cond (at_most compare_tree t u) (t ∷ u ∷ ts) (u ∷ t ∷ ts)

-- Definition 10, L_1, L_2, ..: tree i merged with tree i + 1
abbrev pub left_merges : Component → List Component
left_merges [] = []
left_merges (t ∷ []) = []
left_merges (t ∷ u ∷ ts) = (merge t u ∷ ts) ∷ map (t ∷◌) (left_merges (u ∷ ts))

-- Definition 10, R_1, R_2, ..: tree i + 1 merged with tree i
abbrev pub right_merges : Component → List Component
right_merges [] = []
right_merges (t ∷ []) = []
right_merges (t ∷ u ∷ ts) = (merge u t ∷ ts) ∷ map (t ∷◌) (right_merges (u ∷ ts))

abbrev pub candidates : Component → List Component
candidates c = left_merges c ++ right_merges c

-- d is a valid code whose parent is c
unfoldable pub is_child : Component → Component → Bool
unfolding valid_component parent compare_component
is_child c d = valid_component d && has_parent d && same compare_component (parent d) c

-- Lemma 12: the children of c in the order of the candidates, one already met skipped
unfoldable pub children : Component → List Component
unfolding is_child compare_component
children c = once compare_component (keep (is_child c) (candidates c))

-- Theorem 13 with alternating output, over any children: at even depth (true) c comes before its descendants, at odd depth after them; depth below c is
-- at most j − 1
abbrev pub walk : {A : Type 0} → (A → List A) → ℕ → Bool → A → List A
walk kids zero even c = []
walk kids (suc j) true c = c ∷ gather (walk kids j false) (kids c)
walk kids (suc j) false c = gather (walk kids j true) (kids c) ++ (c ∷ [])

-- the cycle of n points
abbrev pub cycle : ℕ → Component
cycle n = replicate n point

-- all components of n points in generation order; the cycle of n points is at depth 0, and each step down has one tree less
unfoldable pub generation : ℕ → List Component
unfolding children
generation n = walk children n true (cycle n)
