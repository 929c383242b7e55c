use mathlib.Core.Path.{ap}
use Prim.Native.Nat.{◌+◌}
use native.Mathlib.Omega.{arith}
use Rattle.patterns.specs.Digraph6.{digraph6}
use Rattle.written.proofs.Placing.{put_refused}
use Rattle.line_theory.proofs.LineLengths.{line-length-is}
use Rattle.digraph6_writing.proofs.LineParts.{line-put}
use Rattle.digraph6_writing.proofs.put_line.Goals as goal

pub returns-then-out-length : goal.returns-then-out-length
returns-then-out-length c =
    let f = c.args.table.images.now in
    put_refused (digraph6 f) c.args.out.now (omega (arith, line-length-is f, c.body_length.ensures, c.size_length-head.ensures))

pub returns : goal.returns
returns c =
    line-put c.args.table.images.now c.args.out.now _ _ (ap (λ k. 1 + k) c.size_length-head.ensures) c.body_length.ensures (omega arith)
    c.write_head.ensures c.write_body.ensures
