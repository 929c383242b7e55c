-- The local step is right for any order of the children and both parities: what follows a valid component in the walk from the cycle is its step.
use mathlib.Core.Path.{◌≡◌, ap, sym, ◌∙◌}
use mathlib.Core.Bool.{Bool, true, false, not, cond}
use mathlib.Core.List.{List, [], ◌∷◌, ◌++◌}
use mathlib.Core.Option.{Option, none, some}
use Prim.Native.Nat.{ℕ, suc, ◌-◌, ◌%◌, ◌<◌}
use native.Mathlib.Omega.{arith}
use lib.Dec.{eqb}
use lib.ListN.{length, length-replicate}
use borrow.Author.Tests.{eq-eqb, ne_eqb, eqb-true, eqb-false}
use Rattle.lists.specs.Select.{next}
use Rattle.lists.proofs.Tests.{by-test}
use Rattle.lists.proofs.Follow.{Within, next-within, within-next, within-last, within-some-in}
use Rattle.patterns.specs.Tree.{point}
use Rattle.patterns.specs.Component.{Component, points, compare_component, valid_component}
use Rattle.patterns.specs.Generation.{has_parent, parent, walk, cycle}
use Rattle.component_theory.specs.LocalStep.{even_depth, early, after_early, after_late, step_in}
use Rattle.component_theory.proofs.Lemma8.{parent-valid, parent-points, parent-length}
use Rattle.component_theory.proofs.Children.{component-decides, child-candidate}
use Rattle.component_theory.proofs.Generation.{Arranged, arranged-ranked, arranged-sound, arranged-once, cycle-points, cycle-no-parent, cycle-parent, length-points, valid-positive, by-parents}
use Rattle.component_theory.proofs.Pieces.{Block, whole-block, block-below-even, block-below-odd, block-first, block_last}

-- The depth.

even-suc : (n : ℕ) → eqb (suc n % 2) 0 ≡ not (eqb (n % 2) 0)
even-suc n =
    by-test (eqb (n % 2) 0)
    (λ e. let h = eqb-true (n % 2) 0 e in ne_eqb (suc n % 2) 0 (omega arith) ∙ sym (ap not e))
    (λ e. let h = eqb-false (n % 2) 0 e in eq-eqb (suc n % 2) 0 (omega arith) ∙ sym (ap not e))

parent-even_depth : (c : Component) → has_parent c ≡ true → even_depth c ≡ not (even_depth (parent c))
parent-even_depth c t =
    let h : points c - length c ≡ suc (points (parent c) - length (parent c)) = omega (arith, parent-points c, parent-length c t, length-points (parent c)) in
    ap (λ n. eqb (n % 2) 0) h ∙ even-suc (points (parent c) - length (parent c))

cycle-even_depth : (n : ℕ) → even_depth (cycle n) ≡ true
cycle-even_depth n =
    let h : points (cycle n) - length (cycle n) ≡ 0 = omega (arith, cycle-points n, length-replicate n point) in
    ap (λ n. eqb (n % 2) 0) h

-- a parent comes before its descendants exactly if its child comes after its own
parent-early : (even : Bool) (c : Component) → has_parent c ≡ true → early even c ≡ not (early even (parent c))
parent-early true c t = parent-even_depth c t
parent-early false c t = ap not (parent-even_depth c t)

-- the parity says where the cycle comes
cycle-early : (even : Bool) (n : ℕ) → early even (cycle n) ≡ even
cycle-early true n = cycle-even_depth n
cycle-early false n = ap not (cycle-even_depth n)

module _ {kids : Component → List Component} (a : Arranged kids) (even : Bool) where
  -- what follows c and its descendants
  abbrev beyond : Bool → Component → Option Component
  beyond b c = cond b (after_early kids c) (after_late kids c)

  -- c and its descendants stand in one piece of the walk, followed by what the siblings and the parent say
  InBlock : Component → Type 0
  InBlock c = Block (walk kids (length c) (early even c) c) (walk kids (points c) even (cycle (points c))) (beyond (early even c) c)

  cycle-beyond : (b : Bool) (n : ℕ) → beyond b (cycle n) ≡ none
  cycle-beyond true n = rw (cycle-no-parent n)
  cycle-beyond false n = rw (cycle-parent n, cycle-no-parent n)

  cycle-block : (n : ℕ) → InBlock (cycle n)
  unfolding InBlock
  cycle-block n =
      rw (cycle-early even n, cycle-points n, cycle-beyond even n, length-replicate n point) (whole-block (walk kids n even (cycle n)))

  module _ (c : Component) (v : valid_component c ≡ true) (t : has_parent c ≡ true) where
    positive : 0 < length (parent c)
    positive = valid-positive (parent c) (parent-valid c v t)

    sibling : Within c (kids (parent c)) (next compare_component c (kids (parent c)))
    sibling = next-within component-decides (a.all (parent c) c (child-candidate c v t))

    below-early : {l : List Component} → Block (walk kids (length (parent c)) true (parent c)) l (after_early kids (parent c))
        → Block (walk kids (length c) false c) l (after_late kids c)
    below-early b = rw t (block-below-even (arranged-ranked a) (parent c) c positive b sibling)

    below-late : {l : List Component} → Block (walk kids (length (parent c)) false (parent c)) l (after_late kids (parent c))
        → Block (walk kids (length c) true c) l (after_early kids c)
    below-late b = rw t (block-below-odd (arranged-ranked a) (parent c) c positive b sibling)

    below-block : InBlock (parent c) → InBlock c
    unfolding InBlock
    below-block b =
        by-test (early even (parent c))
        (λ e. rw (parent-early even c t ∙ ap not e) (below-early (rw (e, parent-points c) at b)))
        (λ e. rw (parent-early even c t ∙ ap not e) (below-late (rw (e, parent-points c) at b)))

  in_block : (c : Component) → valid_component c ≡ true → InBlock c
  in_block = by-parents InBlock (λ n. cycle-block (suc n)) below-block

  -- the step stands next to a valid component in the walk from the cycle
  pub step_in-within : (c : Component) → valid_component c ≡ true → Within c (walk kids (points c) even (cycle (points c))) (step_in kids even c)
  unfolding InBlock
  step_in-within c v =
      by-test (early even c)
      (λ e. rw e (block-first (arranged-ranked a) c (valid-positive c v) (rw e at (in_block c v))))
      (λ e. rw e (block_last (arranged-ranked a) c (valid-positive c v) (rw e at (in_block c v))))

  -- what follows a valid component in the walk is its step
  pub step_in-is : (c : Component) → valid_component c ≡ true → next compare_component c (walk kids (points c) even (cycle (points c))) ≡ step_in kids even c
  step_in-is c v = within-next component-decides (arranged-once a even (points c)) (step_in-within c v)

  -- the step is valid and has as many points
  pub step_in-valid : (c d : Component) → valid_component c ≡ true → step_in kids even c ≡ some d → (valid_component d ≡ true) × (points d ≡ points c)
  step_in-valid c d v e = arranged-sound a even (points c) d (within-some-in (rw e at (step_in-within c v)))

  -- where there is no step, the walk ends
  pub step_in-none : (c : Component) → valid_component c ≡ true → step_in kids even c ≡ none
      → (l : List Component) × (walk kids (points c) even (cycle (points c)) ≡ l ++ (c ∷ []))
  step_in-none c v e = within-last (rw e at (step_in-within c v))
