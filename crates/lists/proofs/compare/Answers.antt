use Rattle.std.proofs.Common.{ap, ◌∙◌}
use Rattle.std.proofs.lemmas.Slice.Zip.{zip_end}
use Rattle.lists.specs.Blocks.{ordering_of}
use Rattle.lists.proofs.Compared.{compared-end}
use Rattle.lists.proofs.compare.Goals as goal

pub returns : goal.returns
returns c =
    ap ordering_of c.cmp-2.ensures
    ∙ compared-end c.loop-x.invariant
    (zip_end c.args.s.now c.args.t.now c.loop-x.yielded c.into_iter-x-iterator.result _ c.next.new.self _ (cc) (cc) c.loop-x.yielded_by c.in-None.is c.next.ensures.steps)
