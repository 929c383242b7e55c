use mathlib.Core.Path.{sym, ◌∙◌}
use native.Mathlib.Omega.{arith}
use Rattle.trees.proofs.Merging.{reach}
use Rattle.children.proofs.Trying.{left_merge, left-refused, left-tested}
use Rattle.children.proofs.left_child.Goals as goal

-- where both trees have been found, where they have been compared, and where they have been merged
pub returns-then-not-at_most : goal.returns-then-not-at_most
returns-then-not-at_most c =
    let h = sym c.at_most.ensures ∙ c.if-not-at_most.true in
    λ d e. left-refused c.requires d e h _

pub is_least-requires : goal.is_least-requires
is_least-requires c =
    let p = c.requires in
    record { trees = left_merge p; is = c.merge_left.ensures p.pair.this p.pair.that p.pair.after p.pair.is }

pub returns : goal.returns
returns c =
    let p = c.requires in
    let h = sym c.at_most.ensures ∙ c.if-not-at_most.false in
    let m = c.merge_left.ensures p.pair.this p.pair.that p.pair.after p.pair.is in
    λ d e. left-tested p d e h c.is_least.result _ (c.is_least.ensures (left_merge p) m) m

pub bounds-s-i : goal.bounds-s-i
bounds-s-i c = omega (arith, reach c.requires.pair)

pub overflow_cast-j : goal.overflow_cast-j
overflow_cast-j c = omega (arith, reach c.requires.pair)

pub overflow_add-j : goal.overflow_add-j
overflow_add-j c = omega (arith, reach c.requires.pair)

pub bounds-s-j : goal.bounds-s-j
bounds-s-j c = omega (arith, reach c.requires.pair)

pub overflow_cast-e : goal.overflow_cast-e
overflow_cast-e c = omega (arith, reach c.requires.pair)

pub overflow_add-e : goal.overflow_add-e
overflow_add-e c = omega (arith, reach c.requires.pair)

pub slice_bounds-at_most-end : goal.slice_bounds-at_most-end
slice_bounds-at_most-end c = omega (arith, reach c.requires.pair)

pub slice_bounds-at_most-end-2 : goal.slice_bounds-at_most-end-2
slice_bounds-at_most-end-2 c = omega (arith, reach c.requires.pair)
