use Rattle.std.proofs.Common.{rules, IsTrue, ◌↔◌, EachIndex, ◌≤◌, slice_index}
use Rattle.digraph6_reading.proofs.FormatTest.{all-format}
use Rattle.digraph6_reading.proofs.sizes.in_format.Goals as goal

pub returns : goal.returns
returns c =
    let s = c.args.s.now in
    let all : IsTrue c.all.result ↔ EachIndex s (λ k. (63 ≤ slice_index s k) × (slice_index s k ≤ 126)) = search rules in
    all-format s c.all.result all
