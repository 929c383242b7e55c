-- What a valid component is: some bytes, valid trees, and no rotation that is less.
use mathlib.Core.Path.{◌≡◌, refl, ap, sym, ◌∙◌}
use mathlib.Core.Bool.{true, false}
use mathlib.Core.List.{List, [], ◌∷◌}
use Prim.Native.Nat.{ℕ}
use native.Mathlib.Omega.{arith}
use lib.ListN.{length}
use Rattle.lists.specs.Order.{at_most}
use Rattle.lists.specs.Select.{each}
use Rattle.lists.proofs.Tests.{is_false, no_both}
use Rattle.patterns.specs.Tree.{valid_tree}
use Rattle.patterns.specs.Component.{Component, flat, rotations, compare_component, valid_component}
use Rattle.patterns.proofs.Trees.{length-flat}
use Rattle.patterns.proofs.Rotations.{valid-trees}
use Rattle.component_theory.proofs.Keys.{valid-if-least}
use Rattle.trees.proofs.Walks.{no-trees}

pub valid-not-empty : (s : List ℕ) → length s ≡ 0 → (c : Component) → s ≡ flat c → false ≡ valid_component c
unfolding valid_component
valid-not-empty s h c e =
    let q : c ≡ [] = no-trees c (omega (arith, ap length e, length-flat c)) in
    rw q

pub valid-not-trees : (c : Component) → each valid_tree c ≡ false → false ≡ valid_component c
valid-not-trees c f = sym (is_false (valid_component c) (λ v. no_both (valid-trees c v) f))

pub valid-is-least : (s : List ℕ) → (length s ≡ 0 → ⊥) → (c : Component) → s ≡ flat c → each valid_tree c ≡ true
    → each (at_most compare_component c) (rotations c) ≡ valid_component c
valid-is-least s h [] e v = absurd (h (ap length e))
valid-is-least s h (t ∷ c) e v = sym (valid-if-least (t ∷ c) refl ∙ rw v)
