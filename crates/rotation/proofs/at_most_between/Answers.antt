use Rattle.std.proofs.Common.{◌≡◌, ap, ◌∙◌, rules}
use Rattle.std.specs.Ordering.{MatchOrdering}
use Rattle.std.specs.declared.cmp.Ordering.TheVariants.{Less, Greater}
use Rattle.lists.specs.Order.{then}
use Rattle.lists.specs.Blocks.{ordering_of}
use Rattle.rotation.proofs.LeastTurn.{is_le-ordering_of, chained, one, two, three, between}
use Rattle.rotation.proofs.at_most_between.Goals as goal

pub returns : goal.returns
returns c =
    let s = c.args.s.now in
    let a = c.args.a in
    let b = c.args.b in
    let h = c.requires.0 in
    let k = c.requires.1 in
    let q = c.then_with.result in
    let r = c.then_with-2.result in
    let f : MatchOrdering c.compare.result (q ≡ Less) (ordering_of q ≡ two s a b h k) (q ≡ Greater) = search rules in
    let g : MatchOrdering q (r ≡ Less) (ordering_of r ≡ three s a b h k) (r ≡ Greater) = search rules in
    let first : ordering_of q ≡ then (one s a b h k) (two s a b h k) =
    chained c.compare.result q (two s a b h k) f ∙ ap (λ o. then o (two s a b h k)) c.compare.ensures in
    let all : ordering_of r ≡ then (then (one s a b h k) (two s a b h k)) (three s a b h k) =
    chained q r (three s a b h k) g ∙ ap (λ o. then o (three s a b h k)) first in
    c.is_le.ensures ∙ is_le-ordering_of r ∙ rw all (between s a b h k)
