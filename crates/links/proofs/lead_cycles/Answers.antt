use mathlib.Core.Path.{◌≡◌, sym, subst, ◌∙◌}
use mathlib.Core.List.{List}
use Prim.Native.Nat.{ℕ, ◌+◌, ◌-◌, ◌<◌}
use lib.ListN.{length}
use native.Mathlib.Omega.{arith}
use Rattle.links.specs.Leads.{Lesser}
use Rattle.cycles.proofs.Marks.{marks-off, marks-on}
use Rattle.links.proofs.Descending.{lesser-start, lesser-off, lesser-on, lesser-end}
use Rattle.links.proofs.lead_cycles.Goals as goal

-- before the last turn, the point of the turn, and what is known of the greater ones
here : {f leads : List ℕ} {x : ℕ} → Lesser f leads x → 0 < x → x - 1 < length f
here l h = omega (arith, l.passed)

greater : {f leads : List ℕ} {x : ℕ} → Lesser f leads x → 0 < x → Lesser f leads (x - 1 + 1)
greater {f} {leads} {x} l h =
    let e : x ≡ x - 1 + 1 = omega arith in
    subst (λ k. Lesser f leads k) e l

pub loop-x-init : goal.loop-x-init
loop-x-init c = lesser-start c.args.table.images.now _ _ (c.fill.ensures.after (λ y f. f)) c.requires.room

pub bounds-marks-x : goal.bounds-marks-x
bounds-marks-x c = omega (arith, c.requires.marked.same, c.loop-x.invariant.passed)

pub next_lesser-y-requires : goal.next_lesser-y-requires
next_lesser-y-requires c =
    let h = here c.loop-x.invariant c.loop-x-test.true in
    record {
      here = h;
      is_on_cycle = marks-on c.requires.marked h c.if-marks-x-ne0.true;
      greater = greater c.loop-x.invariant c.loop-x-test.true;
    }

pub overflow_cast-leads : goal.overflow_cast-leads
overflow_cast-leads c = omega (arith, c.next_lesser-y.ensures.not_above, c.loop-x.invariant.passed, c.args.table.small)

pub bounds-leads-x : goal.bounds-leads-x
bounds-leads-x c = omega (arith, c.loop-x.invariant.room, c.loop-x.invariant.passed)

pub loop-x-preserved-then-marks-x-ne0 : goal.loop-x-preserved-then-marks-x-ne0
loop-x-preserved-then-marks-x-ne0 c =
    let l = c.loop-x.invariant in
    let t = c.loop-x-test.true in
    lesser-on (greater l t) c.next_lesser-y.result (marks-on c.requires.marked (here l t) c.if-marks-x-ne0.true) c.next_lesser-y.ensures

pub loop-x-preserved : goal.loop-x-preserved
loop-x-preserved c =
    let l = c.loop-x.invariant in
    let t = c.loop-x-test.true in
    lesser-off (greater l t) (marks-off c.requires.marked (here l t) c.if-marks-x-ne0.false)

pub shape_of-leads : goal.shape_of-leads
shape_of-leads c = c.loop-x.invariant.room ∙ sym c.requires.room

pub returns : goal.returns
returns c =
    let e : c.loop-x.x ≡ 0 = omega arith in
    lesser-end c.args.table.small (subst (λ k. Lesser c.args.table.images.now c.loop-x.leads k) e c.loop-x.invariant)
