use mathlib.Core.Path.{sym}
use Prim.Native.Nat.{suc, ◌+◌}
use native.Mathlib.Omega.{arith}
use Rattle.std.proofs.lemmas.Result.{err_from_is_err_and}
use Rattle.tree_reading.proofs.TreesRead.{tree-past}
use Rattle.tree_reading.proofs.Along.{along-start, along-next, along-refused, along-end}
use Rattle.tree_reading.proofs.read_trees.Goals as goal

pub loop-i-init : goal.loop-i-init
loop-i-init c = let a = c.args in along-start a.s.now a.at a.k a.left

pub returns-in_err-end : goal.returns-in_err-end
returns-in_err-end c =
    let l = c.loop-i in
    let call = c.read_tree in
    let p = err_from_is_err_and c.from_residual.result c.from_residual.ensures.1 in
    rw (p.1, p.2) (along-refused l.invariant call.result call.ensures (omega arith) c.in_err-end.field-0.0 c.in_err-end.was)

-- a tree has been read in this turn
pub overflow_sub-rest-in-loop-i : goal.overflow_sub-rest-in-loop-i
overflow_sub-rest-in-loop-i c =
    let l = c.loop-i in
    (tree-past c.args.s.now l.next l.rest c.in_ok-end.end (sym (c.in_ok-end.ensures (suc (l.rest + l.rest)) (omega arith)))).1

pub loop-i-preserved : goal.loop-i-preserved
loop-i-preserved c =
    let call = c.read_tree in
    along-next c.loop-i.invariant call.result call.ensures (omega arith) c.in_ok-end.end c.in_ok-end.was

pub returns : goal.returns
returns c = along-end c.loop-i.invariant (omega arith)
