-- The system before with the same sizes, in memory: from the right the first component that is not its left neighbour again and has a predecessor.
use mathlib.Core.Path.{◌≡◌, refl, ap, ap₂, sym, ◌∙◌}
use mathlib.Core.Bool.{Bool, true, false, cond}
use mathlib.Core.List.{List, [], ◌∷◌, map}
use mathlib.Core.Option.{none, some}
use Prim.Native.Nat.{ℕ, ◌-◌, ◌<◌}
use native.Mathlib.Omega.{arith}
use lib.ListN.{length, take, drop, get_or, drop_of_length-le}
use Rattle.lists.specs.Order.{same}
use Rattle.lists.specs.Select.{left_of}
use Rattle.lists.proofs.Places.{left-entry, left-taken}
use Rattle.patterns.specs.Component.{Component, points, compare_component}
use Rattle.patterns.specs.System.{System}
use Rattle.component_theory.specs.Successor.{predecessor}
use Rattle.component_theory.proofs.Successor.{neighbour-valid}
use Rattle.component_theory.proofs.LastComponent.{last_component-points}
use Rattle.system_theory.specs.StepBack.{lower, lasts, fall}
use Rattle.system_theory.proofs.BackScan.{fall-pass, fall-at}
use Rattle.memory.specs.Memory.{Holds}
use Rattle.memory.proofs.Parts.{held-count}
use Rattle.memory.proofs.FromRight.{from_place, with_rest, rest-again, Reached, reached-start, left-within, left_cut, left_split, left-held, left-reached, left-replaced}
use Rattle.bumping.specs.HeldBumps.{Advanced, HeldCanonical, Bumped}
use Rattle.bumping.proofs.Advancing.{advanced-none, advanced-some}
use Rattle.bumping.proofs.Turns.{turn-same, turn-valid}
use Rattle.falling.specs.HeldFalls.{HeldComponent}

-- the last components have the sizes that they fill
pub lasts-points : (sizes : List ℕ) → map points (lasts sizes) ≡ sizes
lasts-points [] = refl
lasts-points (s ∷ sizes) = ap₂ ◌∷◌ (last_component-points s) (lasts-points sizes)

-- From component i on none can fall.
pub record Falling (S : System) (sizes trees : List ℕ) (i at : ℕ) : Type 0 where
  pub reached : Reached S sizes trees i at
  pub nothing : fall (left_of [] [] S i) (drop i S) ≡ none

-- to the right of all there is none
pub fall-start : {sizes trees : List ℕ} (S : System) → Holds S sizes trees → Falling S sizes trees (length sizes) (length trees)
unfolding fall
fall-start {sizes} S h =
    record { reached = reached-start h; nothing = ap (fall (left_of [] [] S (length sizes))) (drop_of_length-le S {i = length sizes} (omega (arith, held-count h))) }

-- Of the canonical system that the slices hold, whichever name it has.
module _ {sizes before up₀ side₀ out₀ : List ℕ} (w : HeldCanonical sizes before up₀ side₀ out₀)
    {trees : List ℕ} {i at : ℕ} (f : (S : System) → Holds S sizes before → Falling S sizes trees i at) where
  -- the part of it that is not about falling
  pub fall-reached : (S : System) → Holds S sizes before → Reached S sizes trees i at
  fall-reached S h = (f S h).reached

  -- Component i - 1, the next to the left, which begins here:
  abbrev begin : ℕ
  begin = at - get_or sizes (i - 1) 0

  module _ (k : 0 < i) where
    pub fall-component : HeldComponent sizes trees (i - 1) begin
    fall-component =
        let s = fall-reached w.system w.holds in
        record {
          system = w.system;
          holds = s.holds;
          within = left-within s k;
          valid = turn-valid w fall-reached k w.system w.holds;
          place = (left-reached s k).place;
          small = omega (arith, turn-same w fall-reached, w.small);
        }

    module _ (b : Bool) (repeats : (S : System) → Holds S sizes trees → b ≡ same compare_component (left_of [] [] S (i - 1)) (get_or S (i - 1) [])) where
      module _ (S : System) (h : Holds S sizes before) where
        abbrev c : Component
        c = get_or S (i - 1) []

        abbrev T : System
        T = drop i S

        told : same compare_component (left_of [] [] S (i - 1)) c ≡ b
        told = sym (repeats S (f S h).reached.holds)

        -- it stands to the left of those passed, of which none can fall
        none_right : fall c T ≡ none
        none_right = ap (λ p. fall p T) (sym (left-entry [] [] S i k)) ∙ (f S h).nothing

        passed : lower (left_of [] [] S (i - 1)) c ≡ none → fall (left_of [] [] S (i - 1)) (drop (i - 1) S) ≡ none
        passed e = ap (fall (left_of [] [] S (i - 1))) (left_cut (f S h).reached k) ∙ fall-pass (left_of [] [] S (i - 1)) c T none_right e

        -- it is its left neighbour again
        pub fall-repeated : b ≡ true → Falling S sizes trees (i - 1) begin
        fall-repeated e =
            record { reached = left-reached (f S h).reached k; nothing = passed (ap (λ b. cond b none (predecessor c)) (told ∙ e)) }

      module _ (e : b ≡ false) (r : Bool) (part : List ℕ)
          (a : (c : Component) (T : System) → Holds (c ∷ T) (from_place (i - 1) sizes) (from_place begin trees)
          → Advanced (predecessor c) (λ d. lasts (map points T)) r (from_place begin trees) part)
          (S : System) (h : Holds S sizes before) where
        lowered : lower (left_of [] [] S (i - 1)) (c S h) ≡ predecessor (c S h)
        lowered = ap (λ b. cond b none (predecessor (c S h))) (told S h ∙ e)

        -- it has no predecessor
        pub fall-next : r ≡ false → Falling S sizes (with_rest begin part trees) (i - 1) begin
        fall-next u =
            let s = (f S h).reached in
            let q = advanced-none (predecessor (c S h)) (λ d. lasts (map points (T S h))) _ part (rw u at (a (c S h) (T S h) (left-held s k))) in
            rw (rest-again begin part trees q.1) (record { reached = left-reached s k; nothing = passed S h (lowered ∙ q.0) })

        -- it has one
        pub fall-found : r ≡ true → Bumped (fall [] S) true sizes (with_rest begin part trees)
        fall-found u =
            let s = (f S h).reached in
            let q = advanced-some (predecessor (c S h)) (λ d. lasts (map points (T S h))) _ part (rw u at (a (c S h) (T S h) (left-held s k))) in
            let d : Component = q.0 in
            let v = neighbour-valid false (c S h) d (turn-valid w fall-reached k S h) q.1 in
            let l : lower (left_of [] [] (take (i - 1) S) (length (take (i - 1) S))) (c S h) ≡ some d =
            ap (λ p. lower p (c S h)) (left-taken [] [] S (i - 1) (omega (arith, left-within s k))) ∙ lowered ∙ q.1 in
            rw (ap (fall []) (left_split s k) ∙ fall-at [] [] (take (i - 1) S) (c S h) d (T S h) (none_right S h) l)
            (refl, left-replaced s k (d ∷ lasts (map points (T S h))) part (ap₂ ◌∷◌ v.1 (lasts-points (map points (T S h)))) q.2)
