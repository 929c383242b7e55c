-- The local step of a walk through the components: what follows a component, found from its children, its siblings and its parent. A walk is given by the
-- children of every component in some order, and by its parity: true where the components at even depth come before their descendants and those at odd
-- depth after them, false where it is the other way round. Document 004, Theorem 13, with alternating output.
use Rattle.std.specs.Prelude.{Bool, cond, not, List, ◌-◌, ◌%◌, eqb, length}
use Rattle.std.proofs.Math.Option.{Option, none, some, map, get_or}
use Rattle.lists.specs.Select.{first, next, otherwise}
use Rattle.patterns.specs.Component.{Component, points, compare_component}
use Rattle.patterns.specs.Generation.{has_parent, parent}

abbrev pub even_depth : Component → Bool
even_depth c = eqb ((points c - length c) % 2) 0

-- c comes before its descendants
abbrev pub early : Bool → Component → Bool
early even c = cond even (even_depth c) (not (even_depth c))

-- the child of c's parent that follows c
abbrev pub next_sibling_in : (Component → List Component) → Component → Option Component
next_sibling_in kids c = cond (has_parent c) (next compare_component c (kids (parent c))) none

-- which of c and its descendants is listed first, where c comes after them: its first child, and where there is none c itself
abbrev pub opening_in : (Component → List Component) → Component → Component
opening_in kids c = get_or (first (kids c)) c

-- what follows c and its descendants, where c comes before them: the next sibling, and where there is none the parent
abbrev pub after_early : (Component → List Component) → Component → Option Component
after_early kids c = otherwise (next_sibling_in kids c) (cond (has_parent c) (some (parent c)) none)

-- the same where c comes after them: the opening of the next sibling, and where there is none what follows the parent and its descendants
abbrev pub after_late : (Component → List Component) → Component → Option Component
after_late kids c = otherwise (map (opening_in kids) (next_sibling_in kids c)) (after_early kids (parent c))

-- what follows c
abbrev pub step_in : (Component → List Component) → Bool → Component → Option Component
step_in kids even c =
    let below = otherwise (map (opening_in kids) (first (kids c))) (after_early kids c) in
    let after = after_late kids c in
    cond (early even c) below after
