use Rattle.cycles.proofs.Listing.{listing-leaf, listing-other}
use Rattle.cycles.proofs.list_leaves.Goals as goal
use Rattle.cycles.proofs.list_leaves.Goals.{then-degree-eq0, else-degree-eq0}

pub loop-x-preserved : goal.loop-x-preserved
loop-x-preserved c =
    let l = c.loop-x.invariant in
    let t = c.loop-x-test.true in
    elim c.if-degree-eq0.branch [
      | then-degree-eq0 w ↦ rw w.len-is (listing-leaf l t w.if-degree-eq0.true)
      | else-degree-eq0 w ↦ rw w.len-is (listing-other l t w.if-degree-eq0.false)
    ]
