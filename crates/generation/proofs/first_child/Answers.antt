use Rattle.std.proofs.Common.{ap}
use Rattle.generation.specs.Siblings.{is_forward}
use native.Mathlib.Omega.{arith}
use Rattle.scanning.proofs.Scanning.{gave-path, some-trees}
use Rattle.generation.proofs.Relatives.{all-places, few-places, child-forward, child-backward}
use Rattle.generation.proofs.first_child.Goals as goal

pub returns-in-Forward : goal.returns-in-Forward
returns-in-Forward c =
    λ d e. gave-path (child-forward (ap is_forward c.in-Forward.is) d) c.scan.result _ (c.scan.ensures d e)

pub overflow_sub-pairs : goal.overflow_sub-pairs
overflow_sub-pairs c = some-trees c.requires.0 c.count-pairs.result c.count-pairs.ensures

pub overflow_add-pairs : goal.overflow_add-pairs
overflow_add-pairs c = omega (arith, few-places c.requires.0 c.count-pairs.result c.count-pairs.ensures)

pub returns-in-Backward : goal.returns-in-Backward
returns-in-Backward c =
    λ d e.
    gave-path (child-backward c.requires.0 c.count-pairs.result c.count-pairs.ensures (ap is_forward c.in-Backward.is) d e) c.scan_down.result _ (c.scan_down.ensures d e)

pub scan_down-requires : goal.scan_down-requires
scan_down-requires c =
    let p = c.requires in
    (p.0, p.1, all-places p.0 c.count-pairs.result c.count-pairs.ensures)
