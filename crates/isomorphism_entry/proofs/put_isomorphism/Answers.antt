use mathlib.Core.Path.{refl, sym}
use mathlib.Core.Bool.{true≢false}
use Rattle.isomorphism_entry.proofs.Compared.{same-length, systems-differ, labels-matched, systems-equal}
use Rattle.isomorphism_entry.proofs.put_isomorphism.Goals as goal

pub returns-then-not-same_system : goal.returns-then-not-same_system
returns-then-not-same_system c =
    let f = c.args.f in
    let g = c.args.g in
    systems-differ (same-length f.table f.small g.table g.small c.requires) c.coded-a.result c.coded-b.result c.coded-a.ensures c.coded-b.ensures
    (λ e. true≢false (sym (c.if-not-same_system.ensures.1 e))) _

pub put_sent-requires : goal.put_sent-requires
put_sent-requires c =
    let f = c.args.f in
    let g = c.args.g in
    rw (c.labels.ensures, c.labels-2.ensures)
    (labels-matched (same-length f.table f.small g.table g.small c.requires) c.coded-a.result c.coded-b.result c.coded-a.ensures c.coded-b.ensures)

pub returns : goal.returns
returns c =
    let f = c.args.f in
    let g = c.args.g in
    let sent = c.put_sent.ensures in
    systems-equal (same-length f.table f.small g.table g.small c.requires) c.coded-a.result c.coded-b.result c.coded-a.ensures c.coded-b.ensures
    (c.if-not-same_system.ensures.0 refl) (rw (c.labels.ensures, c.labels-2.ensures) at sent)
