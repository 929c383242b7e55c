use mathlib.Core.Path.{◌≡◌, sym, ap, ◌∙◌}
use mathlib.Core.List.{List}
use Prim.Native.Nat.{ℕ, ◌<◌, ◌≤◌}
use native.Mathlib.Omega.{arith}
use lib.ListN.{length, get_or, length-replicate}
use Rattle.patterns.specs.Table.{image, cycle_from}
use Rattle.map_theory.proofs.Leaders.{leads-on_cycle}
use Rattle.census.proofs.Counting.{Counting, counting-start, counting-place, counting-led, counting-passed, counting-end}
use Rattle.census.proofs.Clearing.{Cleared, cleared-start, marked-leads, unmarked-leads-not, cleared-led, cleared-passed}
use Rattle.census.proofs.count_cycles.Goals as goal
use Rattle.census.proofs.count_cycles.Goals.{then-marks-x-ne0, else-marks-x-ne0}

-- the length of a cycle has a place among the counts, and the count there may grow
place : {f marks counts : List ℕ} {x l : ℕ} → Counting (length f) (image f) counts x → Cleared f marks x → x < length f
    → (get_or marks x 0 ≡ 0 → ⊥) → l ≡ length (cycle_from (length f) (image f) x) → (l < length counts) × (get_or counts l 0 ≤ x)
place {f} counting cleared h marked long = counting-place (length f) (image f) counting (marked-leads cleared h marked) long

pub loop-x-init : goal.loop-x-init
loop-x-init c =
    let f = c.args.table.images.now in
    (counting-start (length f) (image f) c.requires.zeros, cleared-start c.requires.marked)

pub bounds-marks-x : goal.bounds-marks-x
bounds-marks-x c = omega (arith, c.loop-x.invariant.1.same)

pub clear_cycle-l-requires : goal.clear_cycle-l-requires
clear_cycle-l-requires c =
    let f = c.args.table.images.now in
    record {
      room = c.loop-x.invariant.1.same;
      here = c.loop-x-test.true;
      is_on_cycle = leads-on_cycle (length f) (image f) c.loop-x.x (marked-leads c.loop-x.invariant.1 c.loop-x-test.true c.if-marks-x-ne0.true);
    }

pub bounds-counts-l : goal.bounds-counts-l
bounds-counts-l c =
    (place c.loop-x.invariant.0 c.loop-x.invariant.1 c.loop-x-test.true c.if-marks-x-ne0.true c.clear_cycle-l.ensures.long).0

pub overflow_add-counts : goal.overflow_add-counts
overflow_add-counts c =
    let l = c.loop-x.invariant in
    let p = place l.0 l.1 c.loop-x-test.true c.if-marks-x-ne0.true c.clear_cycle-l.ensures.long in
    omega (arith, p.1, l.0.point, c.args.table.small)

pub bounds-counts-l-then-marks-x-ne0 : goal.bounds-counts-l-then-marks-x-ne0
bounds-counts-l-then-marks-x-ne0 c =
    let l = c.loop-x.invariant in
    (place l.0 l.1 c.loop-x-test.true c.if-marks-x-ne0.true c.clear_cycle-l.ensures.long).0

pub loop-x-preserved : goal.loop-x-preserved
loop-x-preserved c =
    let l = c.loop-x.invariant in
    let f = c.args.table.images.now in
    let here = c.loop-x-test.true in
    elim c.if-marks-x-ne0.branch [
      | then-marks-x-ne0 w ↦
          let leads = marked-leads l.1 here w.if-marks-x-ne0.true in
          rw (w.marks-is, w.counts-is) (
            counting-led (length f) (image f) l.0 here leads w.clear_cycle-l.ensures.long,
            cleared-led l.1 here w.if-marks-x-ne0.true w.clear_cycle-l.auto.marks w.clear_cycle-l.ensures,
          )
      | else-marks-x-ne0 w ↦
          rw (w.marks-is, w.counts-is) (
            counting-passed (length f) (image f) l.0 here (unmarked-leads-not l.1 here w.if-marks-x-ne0.false),
            cleared-passed l.1 here w.if-marks-x-ne0.false,
          )
    ]

pub shape_of-marks : goal.shape_of-marks
shape_of-marks c = c.loop-x.invariant.1.same ∙ sym c.requires.marked.same

pub shape_of-counts : goal.shape_of-counts
shape_of-counts c = c.loop-x.invariant.0.size ∙ sym (length-replicate _ _) ∙ sym (ap length c.requires.zeros)

pub returns : goal.returns
returns c =
    let f = c.args.table.images.now in
    record {
      size = c.loop-x.invariant.0.size;
      count = λ k p b. counting-end (length f) (image f) c.loop-x.invariant.0 (omega arith) k b;
    }
