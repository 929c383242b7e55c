-- The symmetries of a tree, branch by branch.
use mathlib.Core.Path.{◌≡◌, refl, ap, sym, ◌∙◌, subst}
use mathlib.Core.List.{List}
use Prim.Native.Nat.{ℕ, ◌+◌, ◌-◌, ◌*◌, ◌≤◌, ◌<◌}
use native.Mathlib.Numerals.{add-one}
use native.Mathlib.Omega.{arith}
use lib.ListN.{length, get_or, take, drop}
use lib.Seq.{take_at}
use Rattle.patterns.specs.Tree.{Tree, point, merge, size, below, code, branches, compare_tree}
use Rattle.patterns.specs.Component.{flat}
use Rattle.patterns.proofs.Trees.{length-below, below-branches, graft-branches, size-branches, size-positive}
use Rattle.memory.specs.Memory.{HeldTree}
use Rattle.trees.proofs.Walks.{Inside, Next, inside-parts, inside-next, inside-step}
use Rattle.counting_theory.specs.Symmetries.{copies, tree_symmetries}
use Rattle.counting_theory.proofs.SymmetryBounds.{copies-points, tree-positive}
use Rattle.counting_theory.proofs.SmallSymmetries.{most, factor-small, small-tree}

-- the tree with the branches before the place alone has n symmetries
pub record CountedTo (s : List ℕ) (at n : ℕ) : Type 0 where
  pub last : ℕ
  pub inside : Inside s last at (λ t. n ≡ tree_symmetries t)

pub counted_start : {s : List ℕ} → HeldTree s → CountedTo s 1 1
unfolding tree_symmetries
counted_start h = record {
  last = 1;
  inside = record {
    had = point;
    rest = branches h.tree;
    cut = h.is ∙ ap code (sym (graft-branches h.tree));
    place = refl;
    from = refl;
    kept = refl;
  };
}

-- the branches before the place stand behind the first number
pub branches-before : {s : List ℕ} {at n : ℕ} (w : CountedTo s at n) → take (at - 1) (drop 1 s) ≡ flat (branches w.inside.had)
branches-before {s} {at} w =
    let t = w.inside.had in
    let r = w.inside.rest in
    let m : length (below t) ≡ at - 1 = omega (arith, length-below t, w.inside.place) in
    ap (λ l. take (at - 1) (drop 1 l)) (inside-parts w.inside) ∙ take_at (below t) (flat r) (at - 1) m ∙ below-branches t

-- a branch u more, of which k branches before it are copies
module _ (t u : Tree) {k own n : ℕ} (copied : k ≡ copies compare_tree u (branches t)) (inner : own ≡ tree_symmetries u) (before : n ≡ tree_symmetries t) where
  pub merged-symmetries : ((k + 1) * own) * n ≡ tree_symmetries (merge t u)
  unfolding tree_symmetries
  merged-symmetries = rw (copied, inner, before, add-one (copies compare_tree u (branches t)))

  module _ (small : size t + size u ≤ 15) where
    pub few-copies : k ≤ 15
    few-copies = omega (arith, copied, copies-points u (branches t), size-branches t)

    pub merged-small : ((k + 1) * own) * n ≤ most
    merged-small = rw merged-symmetries (small-tree (merge t u) small)

    pub branch-small : (k + 1) * own ≤ most
    branch-small = factor-small (subst (λ m. 0 < m) (sym before) (tree-positive t)) merged-small

-- A turn at the branch at the place: within the tree, and within 15 bytes.
module _ {s : List ℕ} {at n : ℕ} (w : CountedTo s at n) (h : at < length s) where
  pub here : Next s at w.inside.rest
  here = inside-next w.inside h

  pub turn-within : (0 < at) × (at + size here.tree ≤ length s)
  turn-within = (omega (arith, w.inside.place, size-positive w.inside.had), here.fits)

  pub turn-small : length s ≤ 15 → size w.inside.had + size here.tree ≤ 15
  turn-small few = omega (arith, turn-within, w.inside.place)

  -- k of the branches before it equal it, and it has so many symmetries of its own
  module _ {k own : ℕ} (copied : k ≡ copies compare_tree here.tree (branches w.inside.had)) (inner : own ≡ tree_symmetries here.tree) where
    pub turn-counted : CountedTo s (at + get_or s at 0) (((k + 1) * own) * n)
    turn-counted = record {
      last = at;
      inside = inside-step w.inside here (λ u. ((k + 1) * own) * n ≡ tree_symmetries u) (merged-symmetries w.inside.had here.tree copied inner w.inside.kept);
    }

    module _ (few : length s ≤ 15) where
      pub turn-copies : k ≤ 15
      turn-copies = few-copies w.inside.had here.tree copied inner w.inside.kept (turn-small few)

      pub turn-own : (k + 1) * own ≤ most
      turn-own = branch-small w.inside.had here.tree copied inner w.inside.kept (turn-small few)

      pub turn-product : ((k + 1) * own) * n ≤ most
      turn-product = merged-small w.inside.had here.tree copied inner w.inside.kept (turn-small few)
