-- The step where there is work space, and what memory holds after it: a system that the next step can start from.
use mathlib.Core.Path.{◌≡◌, refl, ap, sym, ◌∙◌}
use mathlib.Core.Bool.{true}
use mathlib.Core.List.{List}
use mathlib.Core.Option.{Option, none, some}
use Rattle.std.specs.Prelude.{Some, None, Option as Number}
use Prim.Native.Nat.{ℕ, ◌≤◌}
use native.Mathlib.Omega.{arith}
use lib.ListN.{length, take, length-take}
use Rattle.lists.proofs.Tests.{clash}
use Rattle.patterns.specs.System.{System, weight, canonical}
use Rattle.memory.specs.Memory.{Holds}
use Rattle.memory.proofs.Parts.{held-count, held-points, held-unique}
use Rattle.stepping.specs.HeldSteps.{HeldStep, HeldNext, SteppedTo}

-- a canonical system in the first places of 200
pub held_next : {S : System} {sizes : List ℕ} {m : ℕ} {trees : List ℕ} → Holds S (take m sizes) trees → canonical S ≡ true → m ≤ length sizes → length sizes ≡ 200
    → length trees ≤ 200 → HeldNext sizes m trees
held_next {S} h c w u v = record { system = S; holds = h; canonical_is = c; within = w; places = u; small = v }

module _ {sizes : List ℕ} {m : ℕ} {trees : List ℕ} (h : HeldNext sizes m trees) where
  pub next-asked : (up side out : List ℕ) → length up ≡ 200 → length side ≡ 200 → length out ≡ 200 → HeldStep sizes m trees up side out
  next-asked up side out u s o =
      record {
        system = h.system;
        holds = h.holds;
        canonical_is = h.canonical_is;
        within = h.within;
        room = omega (arith, h.places, h.small);
        small = omega (arith, h.places);
        work = record { up_room = omega (arith, h.small); side_room = omega (arith, h.small); out_room = omega (arith, h.small) };
      }

  pub next-canonical : (S : System) → Holds S (take m sizes) trees → canonical S ≡ true
  next-canonical S k = ap canonical (sym (held-unique h.holds k)) ∙ h.canonical_is

-- After a step of any kind, forward or backward.
module _ (walk : System → Option System) {sizes trees : List ℕ} (r : Number ℕ) (sizes' trees' : List ℕ)
    (f : (S : System) → Holds S sizes trees → SteppedTo (walk S) r sizes' trees') where
  -- there is none
  pub step-over : r ≡ None → (S : System) → Holds S sizes trees → walk S ≡ none
  step-over e S i = of (walk S) refl (f S i)
    where
      of : (o : Option System) → walk S ≡ o → SteppedTo o r sizes' trees' → walk S ≡ none
      of none p q = p
      of (some T) p q = let y = sym e ∙ q.0 in clash cc

  -- there is one, of k components
  pub step-found : (k : ℕ) → r ≡ Some k → (S : System) → Holds S sizes trees
      → (T : System) × (walk S ≡ some T) × (Holds T (take k sizes') trees') × (length T ≡ k)
  step-found k e S i = of (walk S) refl (f S i)
    where
      of : (o : Option System) → walk S ≡ o → SteppedTo o r sizes' trees'
          → (T : System) × (walk S ≡ some T) × (Holds T (take k sizes') trees') × (length T ≡ k)
      of none p q = let y = sym e ∙ q in clash cc
      of (some T) p q = let y = sym e ∙ q.0 in let z : k ≡ length T = cc in (T, p, rw z q.1, sym z)

-- the step keeps canonical and the number of points
abbrev pub Keeps : (System → Option System) → Type 0
Keeps walk = (S R : System) → canonical S ≡ true → walk S ≡ some R → (canonical R ≡ true) × (weight R ≡ weight S)

module _ {walk : System → Option System} (keeps : Keeps walk) {sizes : List ℕ} {m : ℕ} {trees : List ℕ} (h : HeldNext sizes m trees)
    (r : Number ℕ) (sizes' trees' : List ℕ) (f : (S : System) → Holds S (take m sizes) trees → SteppedTo (walk S) r sizes' trees')
    (k : ℕ) (e : r ≡ Some k) (s : length sizes' ≡ length sizes) where
  -- memory holds what it led to, for the next step
  pub next-again : HeldNext sizes' k trees'
  next-again =
      let t = step-found walk r sizes' trees' f k e h.system h.holds in
      let g = keeps h.system t.0 h.canonical_is t.1 in
      record {
        system = t.0;
        holds = t.2;
        canonical_is = g.0;
        within = omega (arith, held-count t.2, length-take k sizes', t.3);
        places = s ∙ h.places;
        small = omega (arith, held-points t.2, g.1, held-points h.holds, h.small);
      }

  pub next-is : walk h.system ≡ some next-again.system
  next-is = let t = step-found walk r sizes' trees' f k e h.system h.holds in t.1 ∙ ap some (held-unique t.2 next-again.holds)
