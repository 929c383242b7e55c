-- The symmetries of a system in memory, component by component.
use mathlib.Core.Path.{◌≡◌, refl, ap, ap₂, sym, ◌∙◌, subst}
use mathlib.Core.Bool.{true}
use mathlib.Core.List.{List, []}
use Prim.Native.Nat.{ℕ, ◌+◌, ◌-◌, ◌*◌, ◌≤◌, ◌<◌}
use native.Mathlib.Numerals.{add-one}
use native.Mathlib.Omega.{arith}
use lib.ListN.{length, take, drop, get_or, length-take, take-append-drop}
use lib.Seq.{take_all}
use Rattle.lists.proofs.Tests.{each_member}
use Rattle.lists.proofs.Gathering.{take-map}
use Rattle.lists.proofs.Places.{in-index}
use Rattle.patterns.specs.Component.{Component, points, flat, compare_component, valid_component, rotation_symmetry}
use Rattle.patterns.specs.System.{System, weight, canonical}
use Rattle.patterns.proofs.Trees.{length-flat}
use Rattle.component_theory.proofs.CanonicalComponents.{canonical-valid}
use Rattle.system_theory.proofs.Canonical.{canonical-front}
use Rattle.form_theory.proofs.Readback.{canonical-nonempty}
use Rattle.memory.specs.Memory.{Holds, HeldSystem}
use Rattle.memory.specs.HeldCode.{HeldValid, HeldCanonical}
use Rattle.memory.proofs.Parts.{first_next, held-count, held-points, held_fits, held-part, held_next, held-unique, front-trees, weight-next, weight-cut}
use Rattle.counting_theory.specs.Symmetries.{product, copies, tree_symmetries, component_symmetries, symmetries}
use Rattle.counting_theory.proofs.Arrangements.{copies_length, symmetries-snoc}
use Rattle.counting_theory.proofs.CountedTables.{symmetries-positive}
use Rattle.counting_theory.proofs.SmallSymmetries.{most, factor-small, small-component, small-system}

-- the symmetries of a component: its equal rotations, and those of its trees
module _ {s : List ℕ} (w : HeldValid s) (small : length s ≤ 15) {turns trees : ℕ} (turned : (c : Component) → s ≡ flat c → turns ≡ rotation_symmetry c)
    (inner : (c : Component) → s ≡ flat c → trees ≡ product tree_symmetries c) where
  pub turned-symmetries : (c : Component) → s ≡ flat c → turns * trees ≡ component_symmetries c
  unfolding component_symmetries
  turned-symmetries c e = rw (turned c e, inner c e)

  pub turned-small : turns * trees ≤ most
  turned-small =
      let c = w.trees in
      rw (turned-symmetries c w.is) (small-component c w.valid (omega (arith, ap length w.is, length-flat c)))

-- the first i components, which end at the place, have n symmetries
pub record CountedFirst (sizes trees : List ℕ) (n at i : ℕ) : Type 0 where
  pub held : HeldCanonical sizes trees
  pub small : length trees ≤ 15
  pub index : i ≤ length sizes
  pub place : at ≡ weight (take i held.system)
  pub count : n ≡ symmetries (take i held.system)

pub counted_start : {sizes trees : List ℕ} → HeldCanonical sizes trees → length trees ≤ 15 → CountedFirst sizes trees 1 0 0
unfolding symmetries
counted_start h k = record { held = h; small = k; index = omega arith; place = refl; count = refl }

module _ {sizes trees : List ℕ} {n at i : ℕ} (w : CountedFirst sizes trees n at i) where
  abbrev S : System
  S = w.held.system

  canonical-first : (k : ℕ) → canonical (take k S) ≡ true
  canonical-first k = canonical-front (take k S) (drop k S) (ap canonical (take-append-drop k S) ∙ w.held.canonical_is)

  weight-first : (k : ℕ) → weight (take k S) ≤ 15
  weight-first k = omega (arith, weight-cut S k, held-points w.held.holds, w.small)

  -- the components before the place
  pub first-within : at ≤ length trees
  first-within = omega (arith, w.place, weight-cut S i, held-points w.held.holds)

  pub first_holds : Holds (take i S) (take i sizes) (take at trees)
  first_holds = record {
    points_are = ap (take i) w.held.holds.points_are ∙ take-map i points S;
    flat_is = ap₂ take w.place w.held.holds.flat_is ∙ front-trees S i;
  }

  pub first-held : HeldSystem (take i sizes) (take at trees)
  first-held = record {
    system = take i S;
    holds = first_holds;
    each_nonempty = canonical-nonempty (take i S) (canonical-first i);
    small = omega (arith, weight-first i);
  }

  -- the component at the place
  module _ (h : i < length sizes) where
    abbrev c : Component
    c = get_or S i []

    abbrev end : ℕ
    end = at + get_or sizes i 0

    inside : i < length S
    inside = omega (arith, held-count w.held.holds)

    pub next-within : end ≤ length trees
    next-within = held_fits w.held.holds i at h w.place

    pub next-part : take (end - at) (drop at trees) ≡ flat c
    next-part = held-part w.held.holds i at end h w.place refl

    next-points : length (take (end - at) (drop at trees)) ≡ points c
    next-points = ap length next-part ∙ length-flat c

    pub next_small : length (take (end - at) (drop at trees)) ≤ 15
    next_small = omega (arith, next-points, weight-next S i inside, weight-first (i + 1))

    pub next-valid : HeldValid (take (end - at) (drop at trees))
    next-valid = record {
      trees = c;
      is = next-part;
      valid = each_member valid_component (canonical-valid S w.held.canonical_is) (in-index S i [] inside);
      small = omega (arith, next_small);
    }

    -- k of those before it equal it, and it has so many symmetries of its own
    module _ {k own : ℕ} (copied : k ≡ copies compare_component c (take i S)) (inner : own ≡ component_symmetries c) where
      pub few-equal : k ≤ i
      few-equal = omega (arith, copied, copies_length compare_component c (take i S), length-take i S)

      pub more-symmetries : ((k + 1) * own) * n ≡ symmetries (take (i + 1) S)
      more-symmetries =
          ap₂ ◌*◌ (ap₂ ◌*◌ (ap (λ m. m + 1) copied ∙ add-one (copies compare_component c (take i S))) inner) w.count
          ∙ sym (symmetries-snoc (take i S) c)
          ∙ ap symmetries (sym (first_next S i inside))

      pub more-small : ((k + 1) * own) * n ≤ most
      more-small = subst (λ m. m ≤ most) (sym more-symmetries) (small-system (take (i + 1) S) (canonical-first (i + 1)) (weight-first (i + 1)))

      pub component-small : (k + 1) * own ≤ most
      component-small =
          factor-small (subst (λ m. 0 < m) (sym w.count) (symmetries-positive (weight (take i S)) (take i S) (canonical-first i) refl)) more-small

      pub counted_next : CountedFirst sizes trees (((k + 1) * own) * n) end (i + 1)
      counted_next = record {
        held = w.held;
        small = w.small;
        index = omega arith;
        place = held_next w.held.holds i at end h w.place refl;
        count = more-symmetries;
      }

  pub counted-end : length sizes ≤ i → (R : System) → Holds R sizes trees → n ≡ symmetries R
  counted-end h R k = w.count ∙ ap symmetries (take_all i S (omega (arith, held-count w.held.holds)) ∙ held-unique w.held.holds k)
