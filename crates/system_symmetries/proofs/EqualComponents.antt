-- Counting the components of a system in memory that equal a given one.
use mathlib.Core.Path.{◌≡◌, refl, ap, sym, ◌∙◌}
use mathlib.Core.Bool.{true, false, cond}
use mathlib.Core.List.{List, [], ◌∷◌, ◌++◌}
use Prim.Native.Nat.{ℕ, ◌+◌, ◌-◌, ◌≤◌, ◌<◌, compare}
use native.Mathlib.Omega.{arith}
use lib.ListN.{length, take, drop, get_or}
use lib.Seq.{take_all}
use Rattle.lists.specs.Order.{lex, same}
use Rattle.lists.proofs.Tests.{same_tests}
use Rattle.lists.proofs.Comparison.{same_true, same-of-path}
use Rattle.lists.proofs.Lex.{lex-compare-lawful}
use Rattle.patterns.specs.Component.{Component, flat, compare_component}
use Rattle.patterns.specs.System.{System, weight}
use Rattle.patterns.proofs.Trees.{flat-injective, compare_component-lawful}
use Rattle.memory.specs.Memory.{Holds, HeldSystem}
use Rattle.memory.proofs.Parts.{first_next, held-count, held_fits, held-part, held_next, held-unique}
use Rattle.counting_theory.specs.Symmetries.{copies}
use Rattle.counting_theory.proofs.Arrangements.{copies-snoc}

-- components are equal where their bytes are
same-component : (c d : Component) → same compare_component c d ≡ same (lex compare) (flat c) (flat d)
same-component c d =
    same_tests (same compare_component c d) (same (lex compare) (flat c) (flat d))
    (λ e. same-of-path lex-compare-lawful (ap flat (same_true compare_component-lawful c d e)))
    (λ e. same-of-path compare_component-lawful (flat-injective c d (same_true lex-compare-lawful (flat c) (flat d) e)))

-- n of the first i components, which end at the place, equal the component whose bytes are given
pub record EqualFirst (component sizes trees : List ℕ) (n at i : ℕ) : Type 0 where
  pub held : HeldSystem sizes trees
  pub index : i ≤ length sizes
  pub place : at ≡ weight (take i held.system)
  pub fewer : n ≤ i
  pub count : (c : Component) → component ≡ flat c → n ≡ copies compare_component c (take i held.system)

pub equal-start : {component sizes trees : List ℕ} → HeldSystem sizes trees → EqualFirst component sizes trees 0 0 0
equal-start h = record { held = h; index = omega arith; place = refl; fewer = omega arith; count = λ c e. refl }

module _ {component sizes trees : List ℕ} {n at i : ℕ} (w : EqualFirst component sizes trees n at i) where
  abbrev S : System
  S = w.held.system

  -- the component at the place
  module _ (h : i < length sizes) where
    abbrev d : Component
    d = get_or S i []

    abbrev end : ℕ
    end = at + get_or sizes i 0

    pub next-within : end ≤ length trees
    next-within = held_fits w.held.holds i at h w.place

    next-part : take (end - at) (drop at trees) ≡ flat d
    next-part = held-part w.held.holds i at end h w.place refl

    first_more : take (i + 1) S ≡ take i S ++ (d ∷ [])
    first_more = first_next S i (omega (arith, held-count w.held.holds))

    told : (c : Component) → component ≡ flat c → same compare_component c d ≡ same (lex compare) component (take (end - at) (drop at trees))
    told c e =
        same-component c d ∙ ap (λ l. same (lex compare) l (flat d)) (sym e) ∙ ap (same (lex compare) component) (sym next-part)

    -- m of them with it
    counted : {m : ℕ} → m ≤ n + 1 → ((c : Component) → component ≡ flat c → m ≡ n + cond {A = ℕ} (same compare_component c d) 1 0)
        → EqualFirst component sizes trees m end (i + 1)
    counted k f = record {
      held = w.held;
      index = omega arith;
      place = held_next w.held.holds i at end h w.place refl;
      fewer = omega (arith, w.fewer);
      count = λ c e. omega (arith, w.count c e, f c e, ap (copies compare_component c) first_more, copies-snoc compare_component c (take i S) d);
    }

    pub equal_next : same (lex compare) component (take (end - at) (drop at trees)) ≡ true → EqualFirst component sizes trees (n + 1) end (i + 1)
    equal_next t = counted (omega arith) (λ c e. rw (told c e ∙ t))

    pub other-next : same (lex compare) component (take (end - at) (drop at trees)) ≡ false → EqualFirst component sizes trees n end (i + 1)
    other-next t = counted (omega arith) (λ c e. rw (told c e ∙ t) (omega arith))

  pub equal-end : length sizes ≤ i → (c : Component) (R : System) → component ≡ flat c → Holds R sizes trees → n ≡ copies compare_component c R
  equal-end h c R e k =
      w.count c e
      ∙ ap (copies compare_component c) (take_all i S (omega (arith, held-count w.held.holds)) ∙ held-unique w.held.holds k)
