-- Whether a system in memory is canonical: the components one after another, each beside its left neighbour.
use mathlib.Core.Path.{◌≡◌, refl, ap, sym, ◌∙◌}
use mathlib.Core.Logic.{◌⊎◌, inl, inr}
use mathlib.Core.Bool.{true, false, ◌&&◌}
use mathlib.Core.List.{List, [], ◌∷◌}
use Prim.Native.Nat.{ℕ, ◌+◌, ◌-◌, ◌≤◌, ◌<◌}
use native.Mathlib.Omega.{arith}
use lib.ListN.{length, take, drop, get_or, drop_of_length-le}
use Rattle.lists.specs.Order.{at_most}
use Rattle.lists.proofs.Places.{drop-one}
use Rattle.patterns.specs.Component.{Component, points, flat, valid_component}
use Rattle.patterns.specs.System.{System, weight, compare_generated, is_in_order, canonical}
use Rattle.patterns.proofs.Trees.{length-flat}
use Rattle.patterns.proofs.Rotations.{points-positive}
use Rattle.memory.specs.Memory.{Held, Holds, HeldSystem}
use Rattle.paths.specs.HeldPaths.{HeldPair}
use Rattle.memory.proofs.Parts.{held-count, held-points, held-size, held_fits, held-part, held_next, held-unique}

-- The components before place i are in order. The last of them is p, from `last` to `at`; before the first there is none.
pub record Checking (sizes trees : List ℕ) (last at i : ℕ) : Type 0 where
  pub held : HeldSystem sizes trees
  pub p : Component
  pub turn : i ≤ length sizes
  pub place : at ≡ weight (take i held.system)
  pub left_place : last + points p ≡ at
  pub left_is : take (at - last) (drop last trees) ≡ flat p
  pub valid : (p ≡ []) ⊎ (valid_component p ≡ true)
  pub order : canonical held.system ≡ is_in_order p (drop i held.system)

pub checking-start : {sizes trees : List ℕ} → HeldSystem sizes trees → Checking sizes trees 0 0 0
unfolding canonical
checking-start h =
    record { held = h; p = []; turn = omega arith; place = refl; left_place = refl; left_is = refl; valid = inl refl; order = refl }

module _ {sizes trees : List ℕ} {last at i : ℕ} (w : Checking sizes trees last at i) where
  abbrev S : System
  S = w.held.system

  -- the component at place i, from `at` to `end`
  module _ (h : i < length sizes) (end : ℕ) (e : end ≡ at + get_or sizes i 0) where
    abbrev c : Component
    c = get_or S i []

    pub checking-within : (last ≤ at) × (at ≤ end) × (end ≤ length trees)
    checking-within = (omega (arith, w.left_place), omega arith, omega (arith, held_fits w.held.holds i at h w.place))

    pub checking-part : take (end - at) (drop at trees) ≡ flat c
    checking-part = held-part w.held.holds i at end h w.place e

    pub checking-held : Held (take (end - at) (drop at trees))
    checking-held = record { trees = c; is = checking-part }

    further : canonical S ≡ (valid_component c && at_most compare_generated w.p c && is_in_order c (drop (i + 1) S))
    unfolding is_in_order
    further =
        let d : drop i S ≡ c ∷ drop (i + 1) S = drop-one [] S i (omega (arith, held-count w.held.holds)) in
        w.order ∙ ap (is_in_order w.p) d

    -- it is not valid
    pub checking-invalid : valid_component c ≡ false → (R : System) → Holds R sizes trees → false ≡ canonical R
    checking-invalid v R k = sym (ap canonical (held-unique k w.held.holds) ∙ further ∙ rw v)

    module _ (v : valid_component c ≡ true) where
      -- it can be compared with its left neighbour
      pub checking-pair : HeldPair (take (at - last) (drop last trees)) (take (end - at) (drop at trees))
      checking-pair =
          let m = held-points w.held.holds in
          let l = ap length w.left_is ∙ length-flat w.p in
          let r = ap length checking-part ∙ length-flat c in
          let k : points c ≡ end - at = omega (arith, held-size w.held.holds i) in
          record {
            first = w.p;
            second = c;
            first_is = w.left_is;
            second_is = checking-part;
            valid = λ q. (of w.valid (omega (arith, q, l, r, points-positive c v)), v);
            small = (omega (arith, m, l, w.held.small, w.left_place, checking-within), omega (arith, m, r, k, w.held.small, checking-within));
          }
        where
          of : (w.p ≡ []) ⊎ (valid_component w.p ≡ true) → 0 < points w.p → valid_component w.p ≡ true
          of (inl q) n = absurd (omega (arith, ap points q))
          of (inr u) n = u

      -- it comes before its left neighbour
      pub checking-before : at_most compare_generated w.p c ≡ false → (R : System) → Holds R sizes trees → false ≡ canonical R
      checking-before a R k = sym (ap canonical (held-unique k w.held.holds) ∙ further ∙ rw (v, a))

      -- it is in its place
      pub checking-next : at_most compare_generated w.p c ≡ true → Checking sizes trees at end (i + 1)
      checking-next a =
          record {
            held = w.held;
            p = c;
            turn = omega arith;
            place = held_next w.held.holds i at end h w.place e;
            left_place = omega (arith, held-size w.held.holds i);
            left_is = checking-part;
            valid = inr v;
            order = further ∙ rw (v, a);
          }

  -- no component is left
  pub checking-end : length sizes ≤ i → (R : System) → Holds R sizes trees → true ≡ canonical R
  unfolding is_in_order
  checking-end h R k =
      sym
      (ap canonical (held-unique k w.held.holds)
      ∙ w.order
      ∙ ap (is_in_order w.p) (drop_of_length-le S {i = i} (omega (arith, held-count w.held.holds))))
