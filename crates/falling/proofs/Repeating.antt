-- Whether a component in memory is its left neighbour again.
use mathlib.Core.Path.{◌≡◌, refl, ap, ap₂, sym, ◌∙◌}
use mathlib.Core.Bool.{Bool, true, false, true≢false}
use mathlib.Core.List.{List, [], ◌∷◌}
use Prim.Native.Nat.{ℕ, ◌+◌, ◌-◌, ◌≤◌, ◌<◌, compare}
use native.Mathlib.Omega.{arith}
use lib.ListN.{length, take, drop, get_or}
use Rattle.lists.specs.Order.{lex, same}
use Rattle.lists.specs.Select.{left_of}
use Rattle.lists.proofs.Tests.{by-test, no_both, is_false}
use Rattle.lists.proofs.Comparison.{same_true, same-of-path}
use Rattle.lists.proofs.Lex.{lex-compare-lawful}
use Rattle.lists.proofs.Places.{left-entry}
use Rattle.patterns.specs.Component.{Component, points, flat, compare_component, valid_component}
use Rattle.patterns.specs.System.{System, weight}
use Rattle.patterns.proofs.Trees.{compare_component-lawful, flat-injective}
use Rattle.patterns.proofs.Rotations.{valid-nonempty}
use Rattle.memory.specs.Memory.{Holds}
use Rattle.memory.proofs.Parts.{weight-next, held-count, held-size, held_fits, held-part, held-unique}
use Rattle.falling.specs.HeldFalls.{HeldComponent}

-- components are the same exactly if their trees are
flat-same : (p c : Component) → same (lex compare) (flat p) (flat c) ≡ same compare_component p c
flat-same p c =
    by-test (same compare_component p c)
    (λ t. same-of-path lex-compare-lawful (ap flat (same_true compare_component-lawful p c t)) ∙ sym t)
    (λ t.
    is_false (same (lex compare) (flat p) (flat c))
    (λ u. no_both (same-of-path compare_component-lawful (flat-injective p c (same_true lex-compare-lawful (flat p) (flat c) u))) t)
    ∙ sym t)

-- of other sizes they are not
sizes-apart : (p c : Component) → (points p ≡ points c → ⊥) → same compare_component p c ≡ false
sizes-apart p c n = is_false (same compare_component p c) (λ t. n (ap points (same_true compare_component-lawful p c t)))

-- nothing to the left of a component is not that component
none_left : (c : Component) → valid_component c ≡ true → same compare_component [] c ≡ false
unfolding compare_component
none_left [] v = absurd (true≢false (sym (valid-nonempty [] v)))
none_left (t ∷ c) v = refl

module _ {sizes trees : List ℕ} {i at : ℕ} (w : HeldComponent sizes trees i at) where
  -- the first component has no left neighbour
  pub repeats-first : i ≡ 0 → (S : System) → Holds S sizes trees → false ≡ same compare_component (left_of [] [] S i) (get_or S i [])
  repeats-first z S h =
      let e = held-unique w.holds h in
      sym (ap₂ (λ j R. same compare_component (left_of [] [] S j) (get_or R j [])) z (sym e) ∙ none_left (get_or w.system 0 []) (ap (λ j. valid_component (get_or w.system j [])) (sym z) ∙ w.valid))

  pub component-index : i < length sizes
  component-index = omega (arith, held-count w.holds, w.within)

  pub component-fits : at + get_or sizes i 0 ≤ length trees
  component-fits = held_fits w.holds i at component-index w.place

  module _ (some_left : 0 < i) where
    left_place : weight (take (i - 1) w.system) + get_or sizes (i - 1) 0 ≡ at
    left_place =
        let e : i - 1 + 1 ≡ i = omega arith in
        omega (arith, ap (λ n. weight (take n w.system)) e, weight-next w.system (i - 1) (omega (arith, w.within)), held-size w.holds (i - 1), w.place)

    -- the left neighbour has another size
    pub repeats-size : (get_or sizes (i - 1) 0 ≡ get_or sizes i 0 → ⊥) → (S : System) → Holds S sizes trees → false ≡ same compare_component (left_of [] [] S i) (get_or S i [])
    repeats-size n S h =
        sym (ap (λ p. same compare_component p (get_or S i [])) (left-entry [] [] S i some_left)
        ∙ sizes-apart (get_or S (i - 1) []) (get_or S i []) (λ e. n (held-size h (i - 1) ∙ e ∙ sym (held-size h i))))

    module _ (same_size : get_or sizes (i - 1) 0 ≡ get_or sizes i 0) where
      pub left-fits : get_or sizes i 0 ≤ at
      left-fits = omega (arith, left_place)

      -- it has the same size: the trees decide
      pub repeats-trees : (r : Bool) → r ≡ same (lex compare) (take (at - (at - get_or sizes i 0)) (drop (at - get_or sizes i 0) trees)) (take (at + get_or sizes i 0 - at) (drop at trees))
          → (S : System) → Holds S sizes trees → r ≡ same compare_component (left_of [] [] S i) (get_or S i [])
      repeats-trees r e S h =
          let u = held-unique w.holds h in
          let left : take (at - (at - get_or sizes i 0)) (drop (at - get_or sizes i 0) trees) ≡ flat (get_or S (i - 1) []) =
          held-part h (i - 1) (at - get_or sizes i 0) at (omega (arith, component-index)) (omega (arith, left_place, ap (λ R. weight (take (i - 1) R)) u)) (omega (arith, left_place)) in
          let here : take (at + get_or sizes i 0 - at) (drop at trees) ≡ flat (get_or S i []) =
          held-part h i at (at + get_or sizes i 0) component-index (w.place ∙ ap (λ R. weight (take i R)) u) refl in
          e ∙ ap₂ (same (lex compare)) left here ∙ flat-same (get_or S (i - 1) []) (get_or S i [])
          ∙ ap (λ p. same compare_component p (get_or S i [])) (sym (left-entry [] [] S i some_left))
