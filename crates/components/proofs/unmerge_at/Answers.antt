use mathlib.Core.Path.{◌≡◌, sym, ap, ◌∙◌}
use mathlib.Core.List.{List}
use Prim.Native.Nat.{ℕ, ◌+◌, ◌-◌, ◌≤◌}
use native.Mathlib.Omega.{arith}
use lib.ListN.{length, get_or, take, drop, length-set}
use Rattle.patterns.proofs.Trees.{length-flat, flat-injective}
use Rattle.patterns.specs.Tree.{Tree, code, size, merge}
use Rattle.patterns.specs.Component.{Component, flat}
use Rattle.trees.specs.Beginnings.{leading_points, last_start}
use Rattle.component_theory.proofs.Generation.{length-points}
use Rattle.components.specs.Climbs.{HeldMerge}
use Rattle.components.proofs.Climbing.{Led, Cut, led-at, led-fits, led-stretch, led-order, led-cut, climbed-left, climbed-right}
use Rattle.components.proofs.unmerge_at.Goals as goal

module _ {s : List ℕ} {h n : ℕ} (m : HeldMerge s h n) where
  -- a component that the bytes hold is the one asked for
  held : (d : Component) → s ≡ flat d → m.trees ≡ d
  held d e = flat-injective m.trees d (sym m.is ∙ e)

  -- a tree of more than one point comes first after h points
  led : (d : Component) → s ≡ flat d → Led d h
  led d e = led-at s h d e (m.leads ∙ ap leading_points (held d e)) m.more

  fits : h + get_or s h 0 ≤ length s
  fits = led-fits (led m.trees m.is) m.is

  -- its last branch begins b bytes further
  module _ {b : ℕ} (l : (t : Tree) → take (h + get_or s h 0 - h) (drop h s) ≡ code t → b ≡ last_start t) where
    branch : (d : Component) (e : s ≡ flat d) → b ≡ size (led d e).left
    branch d e = let v = led d e in l (merge v.left v.right) (led-stretch v e)

    cut : Cut s h b
    cut = led-cut (led m.trees m.is) m.is (branch m.trees m.is)

pub last_branch-requires : goal.last_branch-requires
last_branch-requires c =
    let v = led c.requires c.requires.trees c.requires.is in
    record { tree = merge v.left v.right; is = led-stretch v c.requires.is }

pub returns-then-at_most : goal.returns-then-at_most
returns-then-at_most c =
    λ d e.
    let v = led c.requires d e in
    let q = branch c.requires c.last_branch.ensures d e in
    climbed-left v e q (sym (led-order v e q) ∙ sym c.at_most.ensures ∙ c.if-at_most.true)

pub exchange-requires : goal.exchange-requires
exchange-requires c =
    let k = cut c.requires c.last_branch.ensures in
    (omega arith, omega (arith, k), simp length-set (omega (arith, k)))

pub overflow_add-result : goal.overflow_add-result
overflow_add-result c =
    let h = c.requires in
    omega (arith, h.counted, h.more, length-points h.trees, ap length h.is, length-flat h.trees)

pub returns : goal.returns
returns c =
    λ d e.
    let v = led c.requires d e in
    let q = branch c.requires c.last_branch.ensures d e in
    let f = sym (led-order v e q) ∙ sym c.at_most.ensures ∙ c.if-at_most.false in
    let x = climbed-right v e q f (c.requires.counted ∙ ap length (held c.requires d e)) in
    (x.0, c.exchange.ensures ∙ x.1, x.2)

pub slice_bounds-last_branch-end : goal.slice_bounds-last_branch-end
slice_bounds-last_branch-end c = fits c.requires

pub overflow_add-l : goal.overflow_add-l
overflow_add-l c = omega (arith, cut c.requires c.last_branch.ensures)

pub bounds-s-l : goal.bounds-s-l
bounds-s-l c = omega (arith, cut c.requires c.last_branch.ensures)

pub overflow_sub-s : goal.overflow_sub-s
overflow_sub-s c = omega (arith, cut c.requires c.last_branch.ensures)

pub slice_bounds-at_most-end : goal.slice_bounds-at_most-end
slice_bounds-at_most-end c = simp length-set (omega (arith, cut c.requires c.last_branch.ensures))

pub slice_bounds-at_most-count-2 : goal.slice_bounds-at_most-count-2
slice_bounds-at_most-count-2 c = omega (arith, cut c.requires c.last_branch.ensures)

pub slice_bounds-at_most-start-2 : goal.slice_bounds-at_most-start-2
slice_bounds-at_most-start-2 c = omega (arith, cut c.requires c.last_branch.ensures)

pub slice_bounds-at_most-end-2 : goal.slice_bounds-at_most-end-2
slice_bounds-at_most-end-2 c = simp length-set (omega (arith, cut c.requires c.last_branch.ensures))
