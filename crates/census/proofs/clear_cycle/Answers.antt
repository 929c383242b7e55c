use mathlib.Core.Path.{◌≡◌, sym, ◌∙◌}
use mathlib.Core.Bool.{true}
use mathlib.Core.List.{List}
use Prim.Native.Nat.{ℕ, ◌<◌}
use native.Mathlib.Omega.{arith}
use lib.ListN.{length}
use Rattle.patterns.specs.Table.{image, is_table}
use Rattle.cycles.proofs.Marks.{inside}
use Rattle.census.proofs.Walking.{walking-bound}
use Rattle.census.proofs.Clearing.{Clearing, clearing-start, clearing-next, clearing-end}
use Rattle.census.proofs.clear_cycle.Goals as goal

-- not back yet, so there are fewer steps than points
bound : {f before after : List ℕ} {x k y : ℕ} → is_table f ≡ true → Clearing f before x k y after → (y ≡ x → ⊥) → k < length f
bound {f} table c away = walking-bound (length f) (image f) (inside f table) c.walk away

pub loop-y-init : goal.loop-y-init
loop-y-init c = clearing-start c.args.table.table c.requires

pub overflow_add-length : goal.overflow_add-length
overflow_add-length c = omega (arith, bound c.args.table.table c.loop-y.invariant c.loop-y-test.true)

pub loop-y-smaller : goal.loop-y-smaller
loop-y-smaller c = omega (arith, bound c.args.table.table c.loop-y.invariant c.loop-y-test.true)

pub loop-y-preserved : goal.loop-y-preserved
loop-y-preserved c = clearing-next c.args.table.table c.requires c.loop-y.invariant c.loop-y-test.true

pub shape_of-marks : goal.shape_of-marks
shape_of-marks c = c.loop-y.invariant.same ∙ sym c.requires.room

pub returns : goal.returns
returns c = clearing-end c.args.table.table c.requires c.loop-y.invariant c.loop-y-test.false
