use mathlib.Core.Path.{sym, ◌∙◌}
use native.Mathlib.Omega.{arith}
use Rattle.scanning.proofs.Scanning.{gave-path, some-trees, node-pairs, passed-found, passed_on}
use Rattle.scanning.proofs.Descending.{lesser-min, lead-small, reach-all, reach-part, lefts-reach, rights-reach}
use Rattle.scanning.proofs.down.scan_down.Goals as goal

pub overflow_sub-pairs : goal.overflow_sub-pairs
overflow_sub-pairs c = some-trees c.requires.0 c.count-pairs.result c.count-pairs.ensures

pub overflow_add-lead : goal.overflow_add-lead
overflow_add-lead c =
    let p = node-pairs c.requires.0 c.count-pairs.result c.count-pairs.ensures c.leading-lead.result c.args.out.now c.requires.1 c.leading-lead.ensures in
    omega (arith, lead-small p)

pub returns-then-to-pairs : goal.returns-then-to-pairs
returns-then-to-pairs c =
    let p = node-pairs c.requires.0 c.count-pairs.result c.count-pairs.ensures c.leading-lead.result c.args.out.now c.requires.1 c.leading-lead.ensures in
    λ d e. gave-path (lefts-reach p (lesser-min c.min-reach.ensures) d e _ _ (omega arith) (lesser-min c.min.ensures)) c.scan_left_down.result _ (c.scan_left_down.ensures d e)

pub returns-then-scan_right_down : goal.returns-then-scan_right_down
returns-then-scan_right_down c =
    let p = node-pairs c.requires.0 c.count-pairs.result c.count-pairs.ensures c.leading-lead.result c.args.out.now c.requires.1 c.leading-lead.ensures in
    λ d e. gave-path (rights-reach p (lesser-min c.min-reach.ensures) d e _ _ (omega arith) c.requires.2 (lesser-min c.min-2.ensures)) _ _ (passed-found (c.scan_right_down.ensures d e) c.if-scan_right_down.true)

pub returns : goal.returns
returns c =
    let p = node-pairs c.requires.0 c.count-pairs.result c.count-pairs.ensures c.leading-lead.result c.args.out.now c.requires.1 c.leading-lead.ensures in
    λ d e.
    gave-path
    (lefts-reach p (lesser-min c.min-reach.ensures) d e _ _ (omega arith) (reach-all c.leading-lead.result (lesser-min c.min-reach.ensures))
    ∙ sym (passed_on (c.scan_right_down.ensures d e) c.if-scan_right_down.false)
    ∙ rights-reach p (lesser-min c.min-reach.ensures) d e _ _ (omega arith) c.requires.2 (lesser-min c.min-2.ensures))
    c.scan_left_down-2.result _ (c.scan_left_down-2.ensures d e)

pub scan_left_down-requires : goal.scan_left_down-requires
scan_left_down-requires c =
    let p = node-pairs c.requires.0 c.count-pairs.result c.count-pairs.ensures c.leading-lead.result c.args.out.now c.requires.1 c.leading-lead.ensures in
    let few = reach-part c.leading-lead.result (lesser-min c.min-reach.ensures) (lesser-min c.min.ensures) in
    (p, few.0, few.1)

pub scan_right_down-requires : goal.scan_right_down-requires
scan_right_down-requires c =
    let p = node-pairs c.requires.0 c.count-pairs.result c.count-pairs.ensures c.leading-lead.result c.args.out.now c.requires.1 c.leading-lead.ensures in
    let few = reach-part c.leading-lead.result (lesser-min c.min-reach.ensures) (lesser-min c.min-2.ensures) in
    (p, few.0, few.1)

pub scan_left_down-requires-2 : goal.scan_left_down-requires-2
scan_left_down-requires-2 c =
    let few = reach-part c.leading-lead.result (lesser-min c.min-reach.ensures) (reach-all c.leading-lead.result (lesser-min c.min-reach.ensures)) in
    (node-pairs c.requires.0 c.count-pairs.result c.count-pairs.ensures c.leading-lead.result _ (c.scan_right_down.auto.out ∙ c.requires.1) c.leading-lead.ensures, few.0, few.1)
