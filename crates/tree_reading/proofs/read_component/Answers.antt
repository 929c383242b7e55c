use mathlib.Core.Path.{◌∙◌}
use native.Mathlib.Omega.{arith}
use Rattle.tree_reading.proofs.Along.{component-ended, component-empty, component-large, component-trees}
use Rattle.tree_reading.proofs.read_component.Goals as goal

pub returns-then-s-at : goal.returns-then-s-at
returns-then-s-at c = let a = c.args in component-ended a.s.now a.at a.left (omega arith)

pub returns-then-k-eq0 : goal.returns-then-k-eq0
returns-then-k-eq0 c = let a = c.args in component-empty a.s.now a.at a.left (omega arith) (omega arith)

pub returns-then-left-k : goal.returns-then-left-k
returns-then-left-k c =
    let a = c.args in
    component-large a.s.now a.at a.left (omega arith) (omega arith) (omega arith)

pub returns : goal.returns
returns c =
    let a = c.args in
    rw c.from-k.ensures at c.read_trees.ensures ∙ component-trees a.s.now a.at a.left (omega arith) (omega arith) (omega arith)
