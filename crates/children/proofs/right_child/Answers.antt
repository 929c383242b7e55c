use mathlib.Core.Path.{◌≡◌, sym, ◌∙◌}
use mathlib.Core.List.{List}
use Prim.Native.Nat.{ℕ, ◌+◌, ◌-◌, ◌≤◌}
use native.Mathlib.Omega.{arith}
use lib.ListN.{get_or, take, drop}
use Rattle.patterns.specs.Tree.{Tree, code}
use Rattle.trees.specs.Beginnings.{last_start}
use Rattle.trees.proofs.Merging.{reach}
use Rattle.children.specs.Candidates.{HeldCandidate}
use Rattle.children.proofs.Trying.{right_merge, that-is, last_within, right-refused, right-unsorted, right-tested}
use Rattle.children.proofs.right_child.Goals as goal

-- the last branch of the second tree begins b bytes further
module _ {s : List ℕ} {i : ℕ} {out : List ℕ} (p : HeldCandidate s i out) {b : ℕ}
    (l : let j = i + get_or s i 0 in (t : Tree) → take (j + get_or s j 0 - j) (drop j s) ≡ code t → b ≡ last_start t) where
  begins : b ≡ last_start p.pair.that
  begins = l p.pair.that (that-is p)

  inside : b ≤ get_or s (i + get_or s i 0) 0
  inside = last_within p b begins

pub returns-then-at_most : goal.returns-then-at_most
returns-then-at_most c = λ d n e l. right-refused c.requires d e n l (sym c.at_most.ensures ∙ c.if-at_most.true) _

pub last_branch-requires : goal.last_branch-requires
last_branch-requires c = let p = c.requires in record { tree = p.pair.that; is = that-is p }

pub is_least-requires : goal.is_least-requires
is_least-requires c =
    let p = c.requires in
    record { trees = right_merge p; is = c.merge_right.ensures p.pair.this p.pair.that p.pair.after p.pair.is }

pub returns-then-at_most-2 : goal.returns-then-at_most-2
returns-then-at_most-2 c =
    let p = c.requires in
    let m = c.merge_right.ensures p.pair.this p.pair.that p.pair.after p.pair.is in
    λ d n e l.
    right-tested p d e n l (sym c.at_most.ensures ∙ c.if-at_most.false) _ (begins p c.last_branch.ensures)
    (sym c.at_most-2.ensures ∙ c.if-at_most-2.true)
    c.is_least.result _ (c.is_least.ensures (right_merge p) m) m

pub returns : goal.returns
returns c =
    λ d n e l.
    right-unsorted c.requires d e n l (sym c.at_most.ensures ∙ c.if-at_most.false) _ (begins c.requires c.last_branch.ensures)
    (sym c.at_most-2.ensures ∙ c.if-at_most-2.false) _

pub bounds-s-i : goal.bounds-s-i
bounds-s-i c = omega (arith, reach c.requires.pair)

pub overflow_cast-j : goal.overflow_cast-j
overflow_cast-j c = omega (arith, reach c.requires.pair)

pub overflow_add-j : goal.overflow_add-j
overflow_add-j c = omega (arith, reach c.requires.pair)

pub bounds-s-j : goal.bounds-s-j
bounds-s-j c = omega (arith, reach c.requires.pair)

pub overflow_cast-e : goal.overflow_cast-e
overflow_cast-e c = omega (arith, reach c.requires.pair)

pub overflow_add-e : goal.overflow_add-e
overflow_add-e c = omega (arith, reach c.requires.pair)

pub slice_bounds-at_most-end : goal.slice_bounds-at_most-end
slice_bounds-at_most-end c = omega (arith, reach c.requires.pair)

pub slice_bounds-at_most-end-2 : goal.slice_bounds-at_most-end-2
slice_bounds-at_most-end-2 c = omega (arith, reach c.requires.pair)

pub slice_bounds-last_branch-end : goal.slice_bounds-last_branch-end
slice_bounds-last_branch-end c = omega (arith, reach c.requires.pair)

pub overflow_add-l : goal.overflow_add-l
overflow_add-l c = omega (arith, reach c.requires.pair, inside c.requires c.last_branch.ensures)

pub slice_bounds-at_most-count-3 : goal.slice_bounds-at_most-count-3
slice_bounds-at_most-count-3 c = omega (arith, reach c.requires.pair, inside c.requires c.last_branch.ensures)

pub slice_bounds-at_most-start-3 : goal.slice_bounds-at_most-start-3
slice_bounds-at_most-start-3 c = omega (arith, reach c.requires.pair, inside c.requires c.last_branch.ensures)

pub slice_bounds-at_most-end-3 : goal.slice_bounds-at_most-end-3
slice_bounds-at_most-end-3 c = omega (arith, reach c.requires.pair, inside c.requires c.last_branch.ensures)

pub slice_bounds-at_most-end-4 : goal.slice_bounds-at_most-end-4
slice_bounds-at_most-end-4 c = omega (arith, reach c.requires.pair)
