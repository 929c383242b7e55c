-- The symmetries of a system counted from its last component, as a walk along it does; the definition counts from the first. Between both stands the number of ways to
-- arrange the components that leaves the list as it is, which does not depend on the direction.
use mathlib.Core.Path.{◌≡◌, refl, ap, ap₂, sym, ◌∙◌}
use mathlib.Core.Bool.{cond}
use mathlib.Core.List.{List, [], ◌∷◌, ◌++◌}
use Prim.Native.Nat.{ℕ, suc, ◌+◌, ◌*◌, ◌≤◌, Ordering}
use native.Mathlib.Nat.{mul-one, one-mul, mul_comm, mul_assoc, mul_left_comm, mul-mul-mul_comm}
use native.Mathlib.Omega.{arith}
use lib.ListN.{length}
use Rattle.lists.specs.Order.{same}
use Rattle.lists.proofs.Tests.{by-test, no_both}
use Rattle.lists.proofs.Comparison.{Lawful, same_true, same-of-path, same-of-apart}
use Rattle.lists.proofs.Permute.{total-append, total-one, total_mono}
use Rattle.patterns.specs.Component.{Component, compare_component}
use Rattle.patterns.specs.System.{System}
use Rattle.patterns.proofs.Trees.{compare_component-lawful}
use Rattle.counting_theory.specs.Symmetries.{product, copies, component_symmetries, symmetries}

-- how many arrangements of l give l again: for each entry, itself and those after it that equal it
abbrev arrangements : {A : Type 0} → (A → A → Ordering) → List A → ℕ
arrangements c [] = 1
arrangements c (x ∷ l) = suc (copies c x l) * arrangements c l

-- one entry more
pub copies-snoc : {A : Type 0} (c : A → A → Ordering) (x : A) (l : List A) (y : A) → copies c x (l ++ (y ∷ [])) ≡ copies c x l + cond {A = ℕ} (same c x y) 1 0
copies-snoc c x l y = omega (arith, total-append (λ z. cond (same c x z) 1 0) l (y ∷ []))

pub copies_length : {A : Type 0} (c : A → A → Ordering) (x : A) (l : List A) → copies c x l ≤ length l
copies_length c x l =
    rw (sym (total-one l))
    (total_mono (λ y. cond (same c x y) 1 0) (λ y. 1) l (λ y m. by-test (same c x y) (λ e. rw e (omega arith)) (λ e. rw e (omega arith))))

module _ {A : Type 0} {c : A → A → Ordering} (w : Lawful c) where
  -- the same with those before it
  arrangements-snoc : (l : List A) (u : A) → arrangements c (l ++ (u ∷ [])) ≡ suc (copies c u l) * arrangements c l
  arrangements-snoc [] u = refl
  arrangements-snoc (x ∷ l) u =
      let k = arrangements c l in
      by-test (same c x u)
      (λ e.
      let q = same_true w x u e in
      let equal : copies c x l ≡ copies c u l = ap (λ z. copies c z l) q in
      let left : copies c x (l ++ (u ∷ [])) ≡ suc (copies c x l) = copies-snoc c x l u ∙ rw e (omega arith) in
      let right : copies c u (x ∷ l) ≡ suc (copies c u l) = rw (same-of-path w (sym q)) (omega arith) in
      ap₂ (λ a b. suc a * b) left (arrangements-snoc l u)
      ∙ ap₂ (λ a b. suc (suc a) * (suc b * k)) equal (sym equal)
      ∙ ap (λ a. suc a * (suc (copies c x l) * k)) (sym right))
      (λ e.
      let left : copies c x (l ++ (u ∷ [])) ≡ copies c x l = copies-snoc c x l u ∙ rw e (omega arith) in
      let right : copies c u (x ∷ l) ≡ copies c u l = rw (same-of-apart w u x (λ q. no_both (same-of-path w (sym q)) e)) (omega arith) in
      ap₂ (λ a b. suc a * b) left (arrangements-snoc l u)
      ∙ mul_left_comm (suc (copies c x l)) (suc (copies c u l)) k
      ∙ ap (λ a. suc a * (suc (copies c x l) * k)) (sym right))

pub product-snoc : {A : Type 0} (g : A → ℕ) (l : List A) (y : A) → product g (l ++ (y ∷ [])) ≡ product g l * g y
product-snoc g [] y = mul-one (g y) ∙ sym (one-mul (g y))
product-snoc g (x ∷ l) y = ap (λ k. g x * k) (product-snoc g l y) ∙ sym (mul_assoc (g x) (product g l) (g y))

system-arrangements : (S : System) → symmetries S ≡ arrangements compare_component S * product component_symmetries S
unfolding symmetries
system-arrangements [] = refl
system-arrangements (c ∷ S) =
    let s = suc (copies compare_component c S) in
    let p = component_symmetries c in
    ap (λ n. (s * p) * n) (system-arrangements S) ∙ mul-mul-mul_comm s p (arrangements compare_component S) (product component_symmetries S)

-- the last component can take the place of any that equals it
pub symmetries-snoc : (S : System) (c : Component)
    → symmetries (S ++ (c ∷ [])) ≡ (suc (copies compare_component c S) * component_symmetries c) * symmetries S
symmetries-snoc S c =
    let s = suc (copies compare_component c S) in
    let p = component_symmetries c in
    let a = arrangements compare_component S in
    let q = product component_symmetries S in
    system-arrangements (S ++ (c ∷ []))
    ∙ ap₂ ◌*◌ (arrangements-snoc compare_component-lawful S c) (product-snoc component_symmetries S c ∙ mul_comm q p)
    ∙ mul-mul-mul_comm s a p q
    ∙ ap (λ n. (s * p) * n) (sym (system-arrangements S))
