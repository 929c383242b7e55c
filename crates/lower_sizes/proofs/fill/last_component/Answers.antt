use Prim.Native.Nat.{ℕ}
use lib.ListN.{length}
use Rattle.lower_sizes.proofs.LastTrees.{last-short, last-long}
use Rattle.lower_sizes.proofs.fill.last_component.Goals as goal

pub returns-then-size-ge2 : goal.returns-then-size-ge2
returns-then-size-ge2 c =
    let points : ℕ = length c.args.out.now in
    last-long points _ (c.fill.ensures.after (λ y f. f)) c.if-size-ge2.true

pub returns-else-size-ge2 : goal.returns-else-size-ge2
returns-else-size-ge2 c =
    let points : ℕ = length c.args.out.now in
    last-short points _ (c.fill.ensures.after (λ y f. f)) c.if-size-ge2.false
