-- The next system with the same sizes, in memory: from the right the first component that has a successor.
use mathlib.Core.Path.{◌≡◌, refl, ap, ap₂, ◌∙◌}
use mathlib.Core.Bool.{Bool, true, false}
use mathlib.Core.List.{List, [], ◌∷◌, map}
use mathlib.Core.Option.{none}
use Prim.Native.Nat.{ℕ, ◌-◌, ◌<◌}
use native.Mathlib.Omega.{arith}
use lib.ListN.{length, take, drop, get_or, drop_of_length-le}
use Rattle.patterns.specs.Component.{Component, points}
use Rattle.patterns.specs.System.{System}
use Rattle.component_theory.specs.Successor.{successor}
use Rattle.component_theory.proofs.Successor.{neighbour-valid}
use Rattle.system_theory.specs.Step.{fills, bump}
use Rattle.memory.specs.Memory.{Holds}
use Rattle.bumping.specs.HeldBumps.{Advanced, HeldCanonical, Bumped}
use Rattle.system_theory.proofs.StepScan.{bump-pass, bump_at}
use Rattle.size_lists.proofs.Filling.{fills-points}
use Rattle.memory.proofs.Parts.{held-count}
use Rattle.memory.proofs.FromRight.{from_place, with_rest, rest-again, Reached, reached-start, left_cut, left_split, left-held, left-reached, left-replaced}
use Rattle.bumping.proofs.Advancing.{advanced-none, advanced-some}
use Rattle.bumping.proofs.Turns.{turn-valid}

-- From component i on none has a successor.
pub record Scanning (S : System) (sizes trees : List ℕ) (i at : ℕ) : Type 0 where
  pub reached : Reached S sizes trees i at
  pub nothing : bump (drop i S) ≡ none

-- to the right of all there is none
pub bump-start : {sizes trees : List ℕ} (S : System) → Holds S sizes trees → Scanning S sizes trees (length sizes) (length trees)
unfolding bump
bump-start {sizes} S h = record { reached = reached-start h; nothing = ap bump (drop_of_length-le S {i = length sizes} (omega (arith, held-count h))) }

-- Of the canonical system that the slices hold, whichever name it has.
module _ {sizes before up₀ side₀ out₀ : List ℕ} (w : HeldCanonical sizes before up₀ side₀ out₀)
    {trees : List ℕ} {i at : ℕ} (f : (S : System) → Holds S sizes before → Scanning S sizes trees i at) where
  -- the part of it that is not about successors
  pub bump-reached : (S : System) → Holds S sizes before → Reached S sizes trees i at
  bump-reached S h = (f S h).reached

  -- Component i - 1, the next to the left, which begins here:
  abbrev begin : ℕ
  begin = at - get_or sizes (i - 1) 0

  module _ (k : 0 < i) (r : Bool) (part : List ℕ)
      (a : (c : Component) (T : System) → Holds (c ∷ T) (from_place (i - 1) sizes) (from_place begin trees)
      → Advanced (successor c) (λ d. fills d (map points T)) r (from_place begin trees) part)
      (S : System) (h : Holds S sizes before) where
    abbrev c : Component
    c = get_or S (i - 1) []

    abbrev T : System
    T = drop i S

    abbrev filling : Component → System
    filling d = fills d (map points T)

    -- it has no successor
    pub bump-next : r ≡ false → Scanning S sizes (with_rest begin part trees) (i - 1) begin
    bump-next e =
        let s = f S h in
        let q = advanced-none (successor c) filling _ part (rw e at (a c T (left-held s.reached k))) in
        rw (rest-again begin part trees q.1) (
        record {
          reached = left-reached s.reached k;
          nothing = ap bump (left_cut s.reached k) ∙ bump-pass c T s.nothing q.0;
        }
        )

    -- it has one
    pub bump-found : r ≡ true → Bumped (bump S) true sizes (with_rest begin part trees)
    bump-found e =
        let s = f S h in
        let q = advanced-some (successor c) filling _ part (rw e at (a c T (left-held s.reached k))) in
        let d : Component = q.0 in
        let v = neighbour-valid true c d (turn-valid w bump-reached k S h) q.1 in
        rw (ap bump (left_split s.reached k) ∙ bump_at (take (i - 1) S) c d T s.nothing q.1)
        (refl, left-replaced s.reached k (d ∷ filling d) part (ap₂ ◌∷◌ v.1 (fills-points d (map points T))) q.2)
