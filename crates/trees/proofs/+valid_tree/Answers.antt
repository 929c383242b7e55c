use mathlib.Core.Path.{◌≡◌, sym, ap, ◌∙◌}
use mathlib.Core.Bool.{true}
use mathlib.Core.List.{List}
use Prim.Native.Nat.{ℕ, ◌+◌}
use native.Mathlib.Omega.{arith}
use Rattle.patterns.specs.Tree.{Tree, code, branches, valid_tree}
use Rattle.patterns.proofs.Trees.{merge-valid, length-code, size-positive}
use Rattle.memory.specs.Memory.{HeldTree}
use Rattle.trees.specs.Beginnings.{leading_points, last_start, star}
use Rattle.trees.proofs.Walks.{Inside, inside-length, inside-next, inside-step, inside-end, inside-order, inside-fails, merge-invalid, merge-unordered, next-stretch}
use Rattle.trees.proofs.FirstPoints.{inside-points, star-valid, max-star}
use Rattle.trees.proofs.+valid_tree.Goals as goal

-- behind the branches that are points
begun : {s : List ℕ} {k : ℕ} → HeldTree s → ((t : Tree) → s ≡ code t → k ≡ leading_points (branches t))
    → Inside s (last_start (star k)) (k + 1) (λ t. valid_tree t ≡ true)
begun {k = k} h e = inside-points h (e h.tree h.is) (λ t. valid_tree t ≡ true) (star-valid k)

pub overflow_add-at : goal.overflow_add-at
overflow_add-at t c = omega (arith, inside-length (begun c.requires c.first_points-points.ensures))

pub loop-at-init : goal.loop-at-init
loop-at-init t c = rw (c.max-last.ensures, max-star) (begun c.requires c.first_points-points.ensures)

pub slice_bounds-valid_tree-end : goal.slice_bounds-valid_tree-end
slice_bounds-valid_tree-end t c =
    let n = inside-next c.loop-at.invariant (omega arith) in
    omega arith

pub valid_tree-requires : goal.valid_tree-requires
valid_tree-requires t c =
    let w = c.loop-at.invariant in
    let n = inside-next w (omega arith) in
    (rw (next-stretch n, length-code n.tree) (omega (arith, size-positive w.had)), record { tree = n.tree; is = next-stretch n })

-- the answer of the call for the branch at the place is false
pub returns-then-not-valid_tree : goal.returns-then-not-valid_tree
returns-then-not-valid_tree t c =
    let w = c.loop-at.invariant in
    let n = inside-next w (omega arith) in
    let f = sym (c.valid_tree.ensures n.tree (next-stretch n)) ∙ c.if-not-valid_tree.true in
    λ u e. inside-fails w n (merge-invalid w.had n.tree f) u e

-- the branch at the place is less than the one before it
pub returns-then-not-at_most : goal.returns-then-not-at_most
returns-then-not-at_most t c =
    let w = c.loop-at.invariant in
    let n = inside-next w (omega arith) in
    let f = sym (c.at_most.ensures ∙ inside-order w n) ∙ c.if-not-at_most.true in
    λ u e. inside-fails w n (merge-unordered w.had n.tree f) u e

pub loop-at-smaller : goal.loop-at-smaller
loop-at-smaller t c =
    let n = inside-next c.loop-at.invariant (omega arith) in
    omega arith

pub loop-at-preserved : goal.loop-at-preserved
loop-at-preserved t c =
    let w = c.loop-at.invariant in
    let n = inside-next w (omega arith) in
    inside-step w n (λ t. valid_tree t ≡ true)
    (merge-valid w.had n.tree w.kept
    (sym (c.valid_tree.ensures n.tree (next-stretch n)) ∙ c.if-not-valid_tree.false)
    (sym (c.at_most.ensures ∙ inside-order w n) ∙ c.if-not-at_most.false))

pub returns : goal.returns
returns t c =
    let w = c.loop-at.invariant in
    λ u e. sym (sym (ap valid_tree (inside-end w (omega arith) u e)) ∙ w.kept)
