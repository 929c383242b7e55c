use mathlib.Core.Path.{◌≡◌}
use Prim.Native.Nat.{◌-◌}
use lib.ListN.{length}
use Rattle.patterns.specs.Tree.{Tree, code}
use Rattle.memory.specs.Memory.{Stands}
use Rattle.mapping.proofs.Imaging.{Imaging}
use Rattle.mapping.proofs.+tree_images.Given as goal

-- the trees after the place p
abbrev pub decreases-tree_images : goal.decreases-tree_images
decreases-tree_images l = length l.trees.now - l.p

abbrev pub invariant-loop-q : goal.invariant-loop-q
invariant-loop-q l = (length l.out ≡ length l.fn.out) × ((t : Tree) → Stands (code t) l.p l.trees → Imaging t l.p l.q l.fn.out l.out)

abbrev pub decreases-loop-q : goal.decreases-loop-q
decreases-loop-q l = l.end - l.q
