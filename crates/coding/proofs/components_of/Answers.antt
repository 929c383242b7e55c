use Prim.Native.Nat.{◌-◌}
use native.Mathlib.Omega.{arith}
use Rattle.links.proofs.Descending.{leader-yes, leader-no}
use Rattle.coding.proofs.Collecting.{collecting-start, collecting-bound, collecting-skip, collecting-asked, collecting-insert, collecting-take, collecting-end}
use Rattle.coding.proofs.components_of.Goals as goal

-- The places that the needs speak of, each named once.
-- At the loop, what was asked for; where its point leads a cycle, that it does; and where its component is written.
pub loop-x-init : goal.loop-x-init
loop-x-init c =
    collecting-start c.args.f.now c.args.trees.now c.args.labels.now c.args.sizes.now c.requires.asked.sizes_room

pub component_at-next-requires : goal.component_at-next-requires
component_at-next-requires c =
    let given = c.requires in
    let leads = leader-yes given.leaders (omega (arith, c.loop-x.invariant.passed)) c.if-leads-x.true in
    collecting-asked given.asked c.loop-x.invariant (c.loop-x.x - 1) (omega arith) leads given.links

pub insert_component-requires : goal.insert_component-requires
insert_component-requires c =
    let given = c.requires in
    let leads = leader-yes given.leaders (omega (arith, c.loop-x.invariant.passed)) c.if-leads-x.true in
    collecting-insert given.asked c.loop-x.invariant (c.loop-x.x - 1) (omega arith) leads c.component_at-next.ensures

pub overflow_add-m : goal.overflow_add-m
overflow_add-m c =
    let given = c.requires in
    omega (arith, collecting-bound given.asked c.loop-x.invariant, given.asked.prepared.small)

pub loop-x-preserved-then-leads-x : goal.loop-x-preserved-then-leads-x
loop-x-preserved-then-leads-x c =
    let given = c.requires in
    let leads = leader-yes given.leaders (omega (arith, c.loop-x.invariant.passed)) c.if-leads-x.true in
    collecting-take given.asked c.loop-x.invariant (c.loop-x.x - 1) (omega arith) leads c.component_at-next.ensures
    c.insert_component.auto.sizes c.insert_component.ensures

pub loop-x-preserved : goal.loop-x-preserved
loop-x-preserved c =
    let given = c.requires in
    collecting-skip given.asked c.loop-x.invariant (c.loop-x.x - 1) (omega arith) (leader-no given.leaders (omega (arith, c.loop-x.invariant.passed)) c.if-leads-x.false)

pub returns : goal.returns
returns c =
    let given = c.requires in
    collecting-end given.asked c.loop-x.invariant (omega arith)
