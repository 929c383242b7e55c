use mathlib.Core.Path.{◌≡◌, ap, ◌∙◌}
use mathlib.Core.List.{List}
use Prim.Native.Nat.{ℕ, ◌-◌, ◌<◌}
use native.Mathlib.Omega.{arith}
use lib.ListN.{length, take, drop, length-drop}
use lib.Seq.{take_all}
use Rattle.patterns.specs.Tree.{Tree, code, branches}
use Rattle.patterns.specs.Component.{flat}
use Rattle.patterns.proofs.Trees.{length-code, size-positive}
use Rattle.memory.specs.Memory.{HeldTree}
use Rattle.trees.proofs.FirstPoints.{branches-held}
use Rattle.trees.proofs.first_points.Goals as goal

-- the part behind the first number holds the branches
behind-first : (s : List ℕ) (t : Tree) → s ≡ code t → take (length s - 1) (drop 1 s) ≡ flat (branches t)
behind-first s t e = take_all (length s - 1) (drop 1 s) (omega (arith, length-drop 1 s)) ∙ branches-held (record { tree = t; is = e })

nonempty : {s : List ℕ} → HeldTree s → 0 < length s
nonempty h = omega (arith, ap length h.is, length-code h.tree, size-positive h.tree)

pub slice_bounds-leading-count : goal.slice_bounds-leading-count
slice_bounds-leading-count c = nonempty c.requires

pub slice_bounds-leading-start : goal.slice_bounds-leading-start
slice_bounds-leading-start c = nonempty c.requires

pub leading-requires : goal.leading-requires
leading-requires c = record { trees = branches c.requires.tree; is = behind-first c.args.s.now c.requires.tree c.requires.is }

pub returns : goal.returns
returns c = λ t e. c.leading.ensures (branches t) (behind-first c.args.s.now t e)
