use mathlib.Core.Path.{◌≡◌, ap, sym, ◌∙◌}
use mathlib.Core.Bool.{true}
use mathlib.Core.List.{List}
use Prim.Native.Nat.{ℕ, ◌<◌}
use lib.ListN.{length, get_or, replicate}
use Rattle.patterns.specs.Table.{is_table}
use Rattle.links.specs.Links.{Links}
use Rattle.cycles.proofs.Marks.{inside}
use Rattle.links.proofs.Linking.{links-none, links-skip, links-take}
use native.Mathlib.Omega.{arith}
use Rattle.links.proofs.link_branches.Goals as goal
use Rattle.links.proofs.link_branches.Goals.{then-marks-y-eq0, else-marks-y-eq0}

-- the image of a point has a place
has-place : {f last before : List ℕ} {y : ℕ} → is_table f ≡ true → Links f y last before → y < length f → get_or f y 0 < length last
has-place {f} {last} {before} {y} table l h = omega (arith, inside f table y h, l.last_room)

pub loop-y-init : goal.loop-y-init
loop-y-init c = links-none (c.fill.ensures.after (λ y f. f) ∙ ap (λ n. replicate n 0) c.requires.last_room) c.requires.before_room

pub bounds-last-x : goal.bounds-last-x
bounds-last-x c = has-place c.args.table.table c.loop-y.invariant c.loop-y-test.true

pub bounds-before-y : goal.bounds-before-y
bounds-before-y c = omega (arith, c.loop-y.invariant.before_room)

pub overflow_cast-last : goal.overflow_cast-last
overflow_cast-last c = omega (arith, c.args.table.small)

pub loop-y-preserved : goal.loop-y-preserved
loop-y-preserved c =
    let m = c.requires.marked in
    let l = c.loop-y.invariant in
    let t = c.loop-y-test.true in
    elim c.if-marks-y-eq0.branch [
      | then-marks-y-eq0 w ↦ rw (w.last-is, w.before-is) (links-take m t l c.args.table.table w.if-marks-y-eq0.true)
      | else-marks-y-eq0 w ↦ rw (w.last-is, w.before-is) (links-skip m t l w.if-marks-y-eq0.false)
    ]

pub shape_of-last : goal.shape_of-last
shape_of-last c = c.loop-y.invariant.last_room ∙ sym c.requires.last_room

pub shape_of-before : goal.shape_of-before
shape_of-before c = c.loop-y.invariant.before_room ∙ sym c.requires.before_room

pub returns : goal.returns
returns c =
    let e : c.loop-y.y ≡ length c.args.table.images.now = omega arith in
    rw e at c.loop-y.invariant

pub bounds-last-x-then-marks-y-eq0 : goal.bounds-last-x-then-marks-y-eq0
bounds-last-x-then-marks-y-eq0 c = has-place c.args.table.table c.loop-y.invariant c.loop-y-test.true
