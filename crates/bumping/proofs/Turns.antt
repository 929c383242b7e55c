-- A turn of a loop over the components of a canonical system in memory, from the right: the component to the left of those passed, and these after it.
use mathlib.Core.Path.{◌≡◌, ap, sym, ◌∙◌}
use mathlib.Core.Bool.{true}
use mathlib.Core.List.{List, [], ◌∷◌}
use Prim.Native.Nat.{ℕ, zero, suc, ◌-◌, ◌≤◌, ◌<◌}
use native.Mathlib.Omega.{arith}
use lib.ListN.{length, drop, get_or, length-drop, length-take}
use Rattle.lists.specs.Select.{each}
use Rattle.lists.proofs.Tests.{each-head, each_tail}
use Rattle.patterns.specs.Component.{valid_component}
use Rattle.patterns.specs.System.{System}
use Rattle.memory.specs.Memory.{Holds}
use Rattle.bumping.specs.HeldBumps.{HeldAhead, HeldCanonical}
use Rattle.system_theory.proofs.Canonical.{canonical-parts}
use Rattle.memory.proofs.Parts.{held-points, held-unique}
use Rattle.memory.proofs.FromRight.{from_place, Reached, left-within, left-size, left-begin, left-held}

valid-at : (S : System) (i : ℕ) → each valid_component S ≡ true → i < length S → valid_component (get_or S i []) ≡ true
valid-at [] i v h = absurd (omega arith)
valid-at (c ∷ S) zero v h = each-head valid_component c S v
valid-at (c ∷ S) (suc i) v h = valid-at S i (each_tail valid_component c S v) (omega arith)

module _ {sizes before up₀ side₀ out₀ : List ℕ} (w : HeldCanonical sizes before up₀ side₀ out₀)
    {trees : List ℕ} {i at : ℕ} (f : (S : System) → Holds S sizes before → Reached S sizes trees i at) where
  here : Reached w.system sizes trees i at
  here = f w.system w.holds

  pub turn-same : length trees ≡ length before
  turn-same = held-points here.holds ∙ sym (held-points w.holds)

  -- Component i - 1, the next to the left, which begins here:
  abbrev begin : ℕ
  begin = at - get_or sizes (i - 1) 0

  module _ (k : 0 < i) where
    pub turn-size : get_or sizes (i - 1) 0 ≤ at
    turn-size = left-size here k

    pub turn-place : begin ≤ length trees
    turn-place = left-begin here k

    pub turn-valid : (S : System) → Holds S sizes before → valid_component (get_or S (i - 1) []) ≡ true
    turn-valid S h =
        valid-at S (i - 1) (ap (each valid_component) (sym (held-unique w.holds h)) ∙ (canonical-parts w.system w.canonical_is).0) (left-within (f S h) k)

    pub turn-ahead : (up side out : List ℕ) → length up ≡ length up₀ → length side ≡ length side₀ → length out ≡ length out₀
        → HeldAhead (from_place (i - 1) sizes) (from_place begin trees) up side out
    turn-ahead up side out p q r =
        let short : length (from_place begin trees) ≤ length before =
        omega (arith, turn-same, length-take (length trees - begin) (drop begin trees), length-drop begin trees) in
        record {
          first = get_or w.system (i - 1) [];
          rest = drop i w.system;
          holds = left-held here k;
          valid = turn-valid w.system w.holds;
          small = omega (arith, w.small);
          work =
              record {
                up_room = omega (arith, w.work.up_room);
                side_room = omega (arith, w.work.side_room);
                out_room = omega (arith, w.work.out_room);
              };
        }
