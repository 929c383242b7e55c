use mathlib.Core.Path.{sym}
use Prim.Native.Nat.{suc, ◌+◌}
use native.Mathlib.Omega.{arith}
use Rattle.std.proofs.lemmas.Result.{err_from_is_err_and}
use Rattle.tree_reading.proofs.TreesRead.{tree-ended, tree-empty, tree-large, tree-leaf, tree-branches, tree-past, branches-none, branches-refused, branches-next}
use Rattle.tree_reading.proofs.+read_branches_read_tree.Goals as goal

-- Branches.

pub read_branches-returns-then-left-eq0 : goal.read_branches-returns-then-left-eq0
read_branches-returns-then-left-eq0 t c = let a = c.args in λ f h. branches-none a.s.now a.at a.left f h (omega arith)

pub read_branches-returns-in_err-next : goal.read_branches-returns-in_err-next
read_branches-returns-in_err-next t c =
    let a = c.args in
    let call = c.read_tree in
    let p = err_from_is_err_and c.from_residual.result c.from_residual.ensures.1 in
    λ f h. rw (p.1, p.2) (branches-refused a.s.now a.at a.left call.result call.ensures f c.in_err-next.field-0.0 h (omega arith) c.in_err-next.was)

-- the first tree has been read
pub read_branches-overflow_sub-left : goal.read_branches-overflow_sub-left
read_branches-overflow_sub-left t c =
    let a = c.args in
    (tree-past a.s.now a.at a.left c.in_ok-next.next (sym (c.in_ok-next.ensures (suc (a.left + a.left)) (omega arith)))).1

pub read_branches-read_branches-requires : goal.read_branches-read_branches-requires
read_branches-read_branches-requires t c =
    let a = c.args in
    let e = tree-past a.s.now a.at a.left c.in_ok-next.next (sym (c.in_ok-next.ensures (suc (a.left + a.left)) (omega arith))) in
    (omega (arith, e.0, e.1), tt)

pub read_branches-returns : goal.read_branches-returns
read_branches-returns t c =
    let a = c.args in
    let call = c.read_tree in
    let rest = c.read_branches in
    λ f h.
    branches-next a.s.now a.at a.left call.result call.ensures f c.in_ok-next.next rest.result h (omega arith)
    c.in_ok-next.was rest.ensures

-- A tree.

pub read_tree-returns-then-s-at : goal.read_tree-returns-then-s-at
read_tree-returns-then-s-at t c = let a = c.args in λ f h. tree-ended a.s.now a.at a.limit f h (omega arith)

pub read_tree-returns-then-x-eq0 : goal.read_tree-returns-then-x-eq0
read_tree-returns-then-x-eq0 t c =
    let a = c.args in
    λ f h. tree-empty a.s.now a.at a.limit f h (omega arith) (omega arith)

pub read_tree-returns-then-limit-x : goal.read_tree-returns-then-limit-x
read_tree-returns-then-limit-x t c =
    let a = c.args in
    λ f h. tree-large a.s.now a.at a.limit f h (omega arith) (omega arith) (omega arith)

pub read_tree-returns-then-x-eq1 : goal.read_tree-returns-then-x-eq1
read_tree-returns-then-x-eq1 t c =
    let a = c.args in
    λ f h. tree-leaf a.s.now a.at a.limit f h (omega arith) (omega arith) (omega arith)

pub read_tree-returns : goal.read_tree-returns
read_tree-returns t c =
    let a = c.args in
    let call = c.read_branches in
    λ f h. tree-branches a.s.now a.at a.limit f call.result h (omega arith) (omega arith) (omega arith) (rw c.from-x.ensures at call.ensures)
