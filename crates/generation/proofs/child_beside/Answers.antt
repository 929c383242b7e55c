use Rattle.std.proofs.Common.{ap}
use Rattle.generation.specs.Siblings.{is_forward}
use native.Mathlib.Omega.{arith}
use Rattle.scanning.proofs.Scanning.{gave-path}
use Rattle.generation.proofs.Relatives.{key-small, key-within, beside-forward, beside-backward}
use Rattle.generation.proofs.child_beside.Goals as goal

pub overflow_add-key : goal.overflow_add-key
overflow_add-key c = let p = c.requires in omega (arith, key-small p.0 p.2)

pub returns-in-Forward : goal.returns-in-Forward
returns-in-Forward c =
    λ d e. gave-path (beside-forward (ap is_forward c.in-Forward.is) d c.args.key) c.scan.result _ (c.scan.ensures d e)

pub scan_down-requires : goal.scan_down-requires
scan_down-requires c = let p = c.requires in (p.0, p.1, key-within p.2)

pub returns-in-Backward : goal.returns-in-Backward
returns-in-Backward c =
    λ d e. gave-path (beside-backward (ap is_forward c.in-Backward.is) d c.args.key) c.scan_down.result _ (c.scan_down.ensures d e)
