-- The first component of a system in memory gives way to its predecessor, and the components to the right of it become the last of their sizes.
use mathlib.Core.Path.{◌≡◌, refl, ap, ap₂, sym, ◌∙◌}
use mathlib.Core.Bool.{Bool, true, false, true≢false}
use mathlib.Core.List.{List, ◌∷◌, ◌++◌, map, head-eq_of_cons-eq}
use mathlib.Core.Option.{Option, none, some}
use Prim.Native.Nat.{ℕ}
use lib.ListN.{length, take, drop, get_or}
use lib.Seq.{take_at, drop_at}
use Rattle.lists.specs.Select.{gather}
use Rattle.patterns.specs.Component.{Component, points, flat, valid_component}
use Rattle.patterns.specs.System.{System}
use Rattle.patterns.proofs.Trees.{length-flat}
use Rattle.component_theory.specs.Successor.{predecessor, last_component}
use Rattle.component_theory.proofs.Successor.{neighbour-valid}
use Rattle.component_theory.proofs.LastComponent.{last_component-points}
use Rattle.children.specs.Candidates.{Gave}
use Rattle.system_theory.specs.StepBack.{lasts}
use Rattle.memory.specs.Memory.{Holds}
use Rattle.memory.proofs.Parts.{held-unique}
use Rattle.bumping.specs.HeldBumps.{HeldAhead, Advanced}
use Rattle.bumping.proofs.Advancing.{ahead-size, ahead-part, advanced-missing}

-- behind the first of the last components stand the others
lasts-behind : (s : ℕ) (sizes : List ℕ) → drop s (gather flat (lasts (s ∷ sizes))) ≡ gather flat (lasts sizes)
lasts-behind s sizes = drop_at (flat (last_component s)) (gather flat (lasts sizes)) s (length-flat (last_component s) ∙ last_component-points s)

module _ {c : Component} {T : System} {sizes trees : List ℕ} (h : Holds (c ∷ T) sizes trees) where
  -- its predecessor, if there is one, in front of the last components
  found : valid_component c ≡ true → (o : Option Component) → o ≡ predecessor c → (r : Bool) (last rest : List ℕ) → Gave o r last → r ≡ true
      → (part filled after : List ℕ) → part ≡ take (get_or sizes 0 0) (last ++ rest) → filled ≡ gather flat (lasts sizes)
      → after ≡ part ++ drop (get_or sizes 0 0) filled → Advanced o (λ d. lasts (map points T)) true trees after
  found v none e r last rest g f part filled after t a q = absurd (true≢false (sym f ∙ g))
  found v (some d) e r last rest g f part filled after t a q =
      let p = neighbour-valid false c d v (sym e) in
      let size = ahead-size h in
      let n : length last ≡ get_or sizes 0 0 = ap length g.1 ∙ length-flat d ∙ p.1 ∙ sym size in
      let is : part ≡ flat d = t ∙ take_at last rest (get_or sizes 0 0) n ∙ g.1 in (
        refl,
        q
            ∙ ap₂ ◌++◌ is (ap₂ drop size (a ∙ ap (λ l. gather flat (lasts l)) h.points_are) ∙ lasts-behind (points c) (map points T)),
      )

module _ {sizes trees up side out : List ℕ} (w : HeldAhead sizes trees up side out) (r : Bool) (last : List ℕ)
    (g : (c : Component) → take (get_or sizes 0 0) trees ≡ flat c → Gave (predecessor c) r last) where
  pub retreat-none : r ≡ false → (c : Component) (T : System) → Holds (c ∷ T) sizes trees
      → Advanced (predecessor c) (λ d. lasts (map points T)) false trees trees
  retreat-none f c T h = advanced-missing h (predecessor c) (λ d. lasts (map points T)) r last (g c (ahead-part h)) f

  pub retreat-some : r ≡ true → (rest part filled after : List ℕ) → part ≡ take (get_or sizes 0 0) (last ++ rest) → filled ≡ gather flat (lasts sizes)
      → after ≡ part ++ drop (get_or sizes 0 0) filled
      → (c : Component) (T : System) → Holds (c ∷ T) sizes trees → Advanced (predecessor c) (λ d. lasts (map points T)) true trees after
  retreat-some f rest part filled after t a q c T h =
      let e : w.first ≡ c = head-eq_of_cons-eq (held-unique w.holds h) in
      found h (ap valid_component (sym e) ∙ w.valid) (predecessor c) refl r last rest (g c (ahead-part h)) f part filled after t a q
