use Rattle.std.proofs.Common.{ap, ◌∙◌}
use Rattle.std.proofs.lemmas.Slice.Zip.{zip_end}
use Rattle.lists.specs.Blocks.{ordering_of}
use Rattle.std.specs.Ordering.{ordering_reverse}
use native.Mathlib.Omega.{arith}
use Rattle.paths.proofs.Tracing.{passed-even, passed-odd}
use Rattle.paths.proofs.compare_paths.Goals as goal

pub returns-then-min-eq0 : goal.returns-then-min-eq0
returns-then-min-eq0 c =
    let m = zip_end c.args.a.now c.args.b.now c.loop-x.yielded c.into_iter-x-iterator.result _ c.next.new.self _ (cc) (cc) c.loop-x.yielded_by c.in-None.is c.next.ensures.steps in
    ap ordering_of c.cmp-by_length.ensures ∙ passed-even c.loop-x.invariant m (omega arith)

pub returns : goal.returns
returns c =
    let m = zip_end c.args.a.now c.args.b.now c.loop-x.yielded c.into_iter-x-iterator.result _ c.next.new.self _ (cc) (cc) c.loop-x.yielded_by c.in-None.is c.next.ensures.steps in
    ap ordering_of (c.reverse.ensures ∙ ap ordering_reverse c.cmp-by_length.ensures) ∙ passed-odd c.loop-x.invariant m (λ e. c.if-min-eq0.false (omega arith))
