-- What an answer of the test of a component's rotations says.
use mathlib.Core.Path.{◌≡◌, refl}
use mathlib.Core.Bool.{Bool, true, false, ◌&&◌}
use mathlib.Core.List.{List}
use Prim.Native.Nat.{ℕ}
use Rattle.lists.specs.Order.{at_most}
use Rattle.lists.specs.Select.{each}
use Rattle.lists.proofs.Tests.{by-test, clash, and-true, no_both}
use Rattle.patterns.specs.Tree.{valid_tree}
use Rattle.patterns.specs.Component.{Component, flat, compare_component, rotations, rotation_symmetry, nonempty, valid_component}
use Rattle.memory.specs.HeldCode.{HeldValid}
use Rattle.components.specs.RotationTest.{rotation_test}
use Rattle.std.proofs.Common.{Option, Some, None, is_some}
use Rattle.std.specs.Bool.{then_some}

is_some-then_some : (b : Bool) (n : ℕ) → is_some (then_some b n) ≡ b
is_some-then_some true n = refl
is_some-then_some false n = refl

module _ (c : Component) {r : Option ℕ} (e : r ≡ rotation_test c) where
  -- whether no rotation is less
  pub told-some : is_some r ≡ each (at_most compare_component c) (rotations c)
  told-some = rw e (is_some-then_some (each (at_most compare_component c) (rotations c)) (rotation_symmetry c))

  -- no rotation is less
  pub told-least : (n : ℕ) → r ≡ Some n → each (at_most compare_component c) (rotations c) ≡ true
  told-least n q = by-test (each (at_most compare_component c) (rotations c)) (λ t. t) (λ f. let p = rw f at e in clash cc)

  -- and so many equal the component
  pub told-turns : (n : ℕ) → r ≡ Some n → n ≡ rotation_symmetry c
  told-turns n q =
      by-test (each (at_most compare_component c) (rotations c))
      (λ t. let p = rw t at e in cc)
      (λ f. let p = rw f at e in clash cc)

  -- some rotation is less
  pub told-lesser : r ≡ None → each (at_most compare_component c) (rotations c) ≡ false
  told-lesser q = by-test (each (at_most compare_component c) (rotations c)) (λ t. let p = rw t at e in clash cc) (λ f. f)

-- no rotation of a valid component is less
valid-least : (c : Component) → valid_component c ≡ true → each (at_most compare_component c) (rotations c) ≡ true
unfolding valid_component
valid-least c v = (and-true (nonempty c && each valid_tree c) (each (at_most compare_component c) (rotations c)) v).1

pub never-lesser : {s : List ℕ} (w : HeldValid s) {r : Option ℕ} → ((c : Component) → s ≡ flat c → r ≡ rotation_test c) → r ≡ None → ⊥
never-lesser w f e = let c = w.trees in no_both (valid-least c w.valid) (told-lesser c (f c w.is) e)
