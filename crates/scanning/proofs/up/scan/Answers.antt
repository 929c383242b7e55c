use mathlib.Core.Path.{◌≡◌, ap, sym, ◌∙◌}
use Prim.Native.Nat.{◌+◌, ◌-◌}
use native.Mathlib.Nat.{add-zero}
use native.Mathlib.Omega.{arith}
use Rattle.component_theory.specs.ChildPlaces.{child_from}
use Rattle.scanning.proofs.Scanning.{gave-path, some-trees, node-pairs, passed-found, passed_on}
use Rattle.scanning.proofs.up.scan.Goals as goal

pub overflow_sub-pairs : goal.overflow_sub-pairs
overflow_sub-pairs c = some-trees c.requires.0 c.count-pairs.result c.count-pairs.ensures

pub scan_right-requires : goal.scan_right-requires
scan_right-requires c =
    node-pairs c.requires.0 c.count-pairs.result c.count-pairs.ensures c.leading-lead.result _ c.requires.1 c.leading-lead.ensures

pub returns-then-pairs-from : goal.returns-then-pairs-from
returns-then-pairs-from c =
    let n = c.count-pairs.result - 1 in
    let q : n + (c.args.from - n) ≡ c.args.from = omega arith in
    (λ d e. gave-path (ap (child_from d) q) c.scan_right.result _ (c.scan_right.ensures d e))

pub scan_left-requires : goal.scan_left-requires
scan_left-requires c =
    (node-pairs c.requires.0 c.count-pairs.result c.count-pairs.ensures c.leading-lead.result _ c.requires.1 c.leading-lead.ensures, omega arith)

pub returns-then-scan_left : goal.returns-then-scan_left
returns-then-scan_left c = λ d e. passed-found (c.scan_left.ensures d e) c.if-scan_left.true

pub scan_right-requires-2 : goal.scan_right-requires-2
scan_right-requires-2 c =
    let room = c.scan_left.auto.out ∙ c.requires.1 in
    node-pairs c.requires.0 c.count-pairs.result c.count-pairs.ensures c.leading-lead.result _ room c.leading-lead.ensures

pub returns : goal.returns
returns c =
    (λ d e.
    gave-path (ap (child_from d) (add-zero (c.count-pairs.result - 1)) ∙ sym (passed_on (c.scan_left.ensures d e) c.if-scan_left.false))
    c.scan_right-2.result _ (c.scan_right-2.ensures d e))
