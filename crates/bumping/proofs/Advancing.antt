-- The first component of a system in memory gives way to its successor, and the components to the right of it are filled in.
use mathlib.Core.Path.{◌≡◌, refl, ap, ap₂, sym, ◌∙◌}
use mathlib.Core.Bool.{Bool, true, false, true≢false}
use mathlib.Core.List.{List, ◌∷◌, ◌++◌, map, head-eq_of_cons-eq}
use mathlib.Core.Option.{Option, none, some}
use Prim.Native.Nat.{ℕ, ◌≤◌, ◌<◌}
use native.Mathlib.Omega.{arith}
use lib.ListN.{length, take, get_or, length-append}
use lib.Seq.{take_at, length-take-le}
use Rattle.lists.specs.Select.{gather}
use Rattle.lists.proofs.Permute.{total-map}
use Rattle.patterns.specs.Component.{Component, points, flat, valid_component}
use Rattle.patterns.specs.System.{System}
use Rattle.patterns.proofs.Trees.{length-flat}
use Rattle.component_theory.specs.Successor.{successor}
use Rattle.component_theory.proofs.Successor.{neighbour-valid}
use Rattle.children.specs.Candidates.{Gave}
use Rattle.scanning.specs.HeldNodes.{Node}
use Rattle.system_theory.specs.Step.{fills}
use Rattle.memory.specs.Memory.{Holds}
use Rattle.size_lists.specs.SizesHeld.{sum, fill_trees}
use Rattle.bumping.specs.HeldBumps.{HeldAhead, Advanced}
use Rattle.size_lists.proofs.Filling.{flat-fills, fill_here}
use Rattle.memory.proofs.Parts.{held-points, held-unique}

-- a part in front of a list
pub front_fits : (k : ℕ) (l m : List ℕ) → length l ≡ k → k ≤ length (l ++ m)
front_fits k l m e = omega (arith, length-append l m)

pub front_length : (k : ℕ) (l m : List ℕ) → length l ≡ k → k ≡ length (take k (l ++ m))
front_length k l m e = sym (length-take-le k (l ++ m) (front_fits k l m e))

-- A component in front of others.
module _ {c : Component} {T : System} {sizes trees : List ℕ} (h : Holds (c ∷ T) sizes trees) where
  pub ahead-some : 0 < length sizes
  ahead-some = omega (arith, ap length h.points_are)

  pub ahead-size : get_or sizes 0 0 ≡ points c
  ahead-size = ap (λ l. get_or l 0 0) h.points_are

  -- its trees are the first
  pub ahead-part : take (get_or sizes 0 0) trees ≡ flat c
  ahead-part = ap₂ take ahead-size h.flat_is ∙ take_at (flat c) (gather flat T) (points c) (length-flat c)

  pub ahead-fits : get_or sizes 0 0 ≤ length trees
  ahead-fits = omega (arith, ahead-size, ap length h.flat_is, length-append (flat c) (gather flat T), length-flat c)

  pub ahead-sum : sum sizes ≡ length trees
  ahead-sum = ap sum h.points_are ∙ total-map (λ s. s) points (c ∷ T) ∙ sym (held-points h)

  -- its successor, if there is one, in front of what is filled in to the right of it
  found : valid_component c ≡ true → (o : Option Component) → o ≡ successor c → (r : Bool) (last rest after : List ℕ) → Gave o r last → r ≡ true
      → after ≡ gather (fill_trees (take (get_or sizes 0 0) (last ++ rest))) sizes → Advanced o (λ d. fills d (map points T)) true trees after
  found v none e r last rest after g f q = absurd (true≢false (sym f ∙ g))
  found v (some d) e r last rest after g f q =
      let p = neighbour-valid true c d v (sym e) in
      let n : length last ≡ get_or sizes 0 0 = ap length g.1 ∙ length-flat d ∙ p.1 ∙ sym ahead-size in (
        refl,
        q
            ∙ ap (λ l. gather (fill_trees l) sizes) (take_at last rest (get_or sizes 0 0) n ∙ g.1)
            ∙ ap (gather (fill_trees (flat d))) h.points_are
            ∙ sym (flat-fills d (points c ∷ map points T))
            ∙ ap (gather flat) (sym (fill_here d (points c) (map points T) p.1)),
      )

  pub advanced-missing : (o : Option Component) (filling : Component → System) (r : Bool) (last : List ℕ) → Gave o r last → r ≡ false → Advanced o filling false trees trees
  advanced-missing none filling r last g f = (refl, refl)
  advanced-missing (some d) filling r last g f = absurd (true≢false (sym g.0 ∙ f))

module _ {sizes trees up side out : List ℕ} (w : HeldAhead sizes trees up side out) where
  ahead-short : get_or sizes 0 0 ≤ length trees
  ahead-short = ahead-fits w.holds

  pub ahead-length : length (take (get_or sizes 0 0) trees) ≡ get_or sizes 0 0
  ahead-length = length-take-le (get_or sizes 0 0) trees ahead-short

  pub ahead-up : length (take (get_or sizes 0 0) up) ≡ get_or sizes 0 0
  ahead-up = length-take-le (get_or sizes 0 0) up (omega (arith, ahead-short, w.work.up_room))

  pub ahead-side : length (take (get_or sizes 0 0) side) ≡ get_or sizes 0 0
  ahead-side = length-take-le (get_or sizes 0 0) side (omega (arith, ahead-short, w.work.side_room))

  pub ahead-out : length (take (get_or sizes 0 0) out) ≡ get_or sizes 0 0
  ahead-out = length-take-le (get_or sizes 0 0) out (omega (arith, ahead-short, w.work.out_room))

  pub ahead-node : Node (take (get_or sizes 0 0) trees)
  ahead-node =
      record { trees = w.first; is = ahead-part w.holds; valid = w.valid; small = omega (arith, ahead-length, ahead-short, w.small) }

  module _ (r : Bool) (last : List ℕ) (g : (c : Component) → take (get_or sizes 0 0) trees ≡ flat c → Gave (successor c) r last) where
    pub advance-none : r ≡ false → (c : Component) (T : System) → Holds (c ∷ T) sizes trees → Advanced (successor c) (λ d. fills d (map points T)) false trees trees
    advance-none f c T h = advanced-missing h (successor c) (λ d. fills d (map points T)) r last (g c (ahead-part h)) f

    pub advance-some : r ≡ true → (rest after : List ℕ) → after ≡ gather (fill_trees (take (get_or sizes 0 0) (last ++ rest))) sizes
        → (c : Component) (T : System) → Holds (c ∷ T) sizes trees → Advanced (successor c) (λ d. fills d (map points T)) true trees after
    advance-some f rest after q c T h =
        let e : w.first ≡ c = head-eq_of_cons-eq (held-unique w.holds h) in
        found h (ap valid_component (sym e) ∙ w.valid) (successor c) refl r last rest after (g c (ahead-part h)) f q

-- what an advance says, by its answer
module _ (o : Option Component) (filling : Component → System) (before after : List ℕ) where
  pub advanced-none : Advanced o filling false before after → (o ≡ none) × (after ≡ before)
  advanced-none a = of o a
    where
      of : (o : Option Component) → Advanced o filling false before after → (o ≡ none) × (after ≡ before)
      of none a = (refl, a.1)
      of (some d) a = absurd (true≢false (sym a.0))

  pub advanced-some : Advanced o filling true before after → (d : Component) × (o ≡ some d) × (after ≡ gather flat (d ∷ filling d))
  advanced-some a = of o a
    where
      of : (o : Option Component) → Advanced o filling true before after → (d : Component) × (o ≡ some d) × (after ≡ gather flat (d ∷ filling d))
      of none a = absurd (true≢false a.0)
      of (some d) a = (d, refl, a.1)
