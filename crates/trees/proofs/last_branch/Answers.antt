use mathlib.Core.Path.{◌≡◌, ap, ◌∙◌}
use mathlib.Core.List.{List}
use Prim.Native.Nat.{ℕ, ◌+◌}
use native.Mathlib.Omega.{arith}
use Rattle.trees.specs.Beginnings.{leading_points, last_start, star}
use Rattle.patterns.specs.Tree.{Tree, code, branches}
use Rattle.memory.specs.Memory.{HeldTree}
use Rattle.trees.proofs.Walks.{Inside, inside-length, inside-next, inside-step, inside-end}
use Rattle.trees.proofs.FirstPoints.{inside-points, max-star}
use Rattle.trees.proofs.last_branch.Goals as goal

-- behind the branches that are points
begun : {s : List ℕ} {k : ℕ} → HeldTree s → ((t : Tree) → s ≡ code t → k ≡ leading_points (branches t)) → Inside s (last_start (star k)) (k + 1) (λ t. Unit {0})
begun h e = inside-points h (e h.tree h.is) (λ t. Unit {0}) tt

pub loop-at-init : goal.loop-at-init
loop-at-init c = rw (c.max-last.ensures, max-star) (begun c.requires c.first_points-points.ensures)

pub loop-at-smaller : goal.loop-at-smaller
loop-at-smaller c =
    let n = inside-next c.loop-at.invariant (omega arith) in
    omega arith

pub loop-at-preserved : goal.loop-at-preserved
loop-at-preserved c =
    let w = c.loop-at.invariant in
    inside-step w (inside-next w (omega arith)) (λ t. Unit {0}) tt

pub returns : goal.returns
returns c =
    let w = c.loop-at.invariant in
    λ t e. w.from ∙ ap last_start (inside-end w (omega arith) t e)

pub overflow_add-at : goal.overflow_add-at
overflow_add-at c = omega (arith, inside-length (begun c.requires c.first_points-points.ensures))
