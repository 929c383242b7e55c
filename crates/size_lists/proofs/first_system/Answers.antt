use mathlib.Core.Path.{ap, sym, ◌∙◌}
use lib.ListN.{length, replicate}
use Rattle.size_lists.proofs.Filling.{first-held}
use Rattle.size_lists.proofs.first_system.Goals as goal

pub returns : goal.returns
returns c =
    let n = length c.args.sizes.now in
    λ S e. first-held n _ _ (c.fill.ensures.after (λ y f. f)) (c.fill-2.ensures.after (λ y f. f) ∙ ap (λ k. replicate k 1) (sym c.requires)) S e
