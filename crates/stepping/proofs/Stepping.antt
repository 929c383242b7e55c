-- The step in memory, forward or backward: to another system with the same sizes, or where there is none to what fills another size list.
use mathlib.Core.Path.{◌≡◌, refl, ap, sym, ◌∙◌}
use mathlib.Core.Bool.{Bool, true, false, true≢false}
use mathlib.Core.List.{List, map}
use mathlib.Core.Option.{Option, none, some}
use Rattle.std.specs.Prelude.{Some, None}
use Prim.Native.Nat.{ℕ, ◌≤◌}
use native.Mathlib.Omega.{arith}
use lib.Dec.{ltb}
use lib.ListN.{length, take, length-map}
use lib.Seq.{length-take-le}
use borrow.Author.Tests.{lt-ltb}
use Rattle.lists.specs.Select.{each, gather}
use Rattle.lists.proofs.Tests.{each-cons}
use Rattle.lists.proofs.Permute.{total-map}
use Rattle.patterns.specs.Component.{points, flat}
use Rattle.patterns.specs.System.{System, weight, canonical}
use Rattle.memory.specs.Memory.{Holds}
use Rattle.size_lists.specs.SizesHeld.{sum, SizesIn, NextIn}
use Rattle.bumping.specs.HeldBumps.{HeldCanonical, Bumped}
use Rattle.stepping.specs.HeldSteps.{HeldStep, SteppedTo}
use Rattle.system_theory.proofs.Sizes.{Upward, upward_nil, upward_cons}
use Rattle.system_theory.proofs.Canonical.{canonical-upward}
use Rattle.memory.proofs.Parts.{held-count, held-points}

positive : {a : ℕ} {l : List ℕ} → 1 ≤ a → Upward a l → each (ltb 0) l ≡ true
positive h upward_nil = refl
positive h (upward_cons {b = b} {l = l} k u) = each-cons (ltb 0) {x = b} l (lt-ltb 0 b (omega arith)) (positive (omega arith) u)

-- what the search for another system with the same sizes says, by its answer
bumped-some : (o : Option System) (sizes trees : List ℕ) → Bumped o true sizes trees → (T : System) × (o ≡ some T) × Holds T sizes trees
bumped-some none sizes trees b = absurd (true≢false b)
bumped-some (some T) sizes trees b = (T, refl, b.1)

bumped_none : (o : Option System) (sizes trees : List ℕ) → Bumped o false sizes trees → o ≡ none
bumped_none none sizes trees b = refl
bumped_none (some T) sizes trees b = absurd (true≢false (sym b.0))

-- what the other size list says, by its length
next_last : (o : Option (List ℕ)) (sizes : List ℕ) → NextIn o None sizes → o ≡ none
next_last none sizes n = refl
next_last (some l) sizes n = absurd n

next-some : (o : Option (List ℕ)) (k : ℕ) (sizes : List ℕ) → NextIn o (Some k) sizes → (o ≡ some (take k sizes)) × (k ≤ length sizes)
next-some none k sizes n = absurd n
next-some (some l) k sizes n = (ap some (sym n.2), n.1)

-- The parts of a step: `same` within the sizes, `next` from size list to size list, and `filling` of the new sizes.
pub record Parts (step same : System → Option System) (next : List ℕ → Option (List ℕ)) (filling : List ℕ → System) : Type 0 where
  pub within : (S T : System) → same S ≡ some T → step S ≡ some T
  pub beyond : (S : System) (l : List ℕ) → same S ≡ none → next (map points S) ≡ some l → step S ≡ some (filling l)
  pub over : (S : System) → same S ≡ none → next (map points S) ≡ none → step S ≡ none
  pub keeps : (S R : System) → canonical S ≡ true → step S ≡ some R → (canonical R ≡ true) × (weight R ≡ weight S)
  pub fits : (l : List ℕ) → map points (filling l) ≡ l

-- The step goes to another size list, which stands in the first k places, and to what fills it; the slice that is filled is as long as before.
pub record Other {sizes : List ℕ} {m : ℕ} {trees up side out : List ℕ} (w : HeldStep sizes m trees up side out) (step : System → Option System) (filling : List ℕ → System)
    (k : ℕ) (sizes' after : List ℕ) : Type 0 where
  pub gone : (S : System) → Holds S (take m sizes) trees → step S ≡ some (filling (take k sizes'))
  pub few : k ≤ length sizes'
  pub long : length after ≡ length trees

module _ {sizes : List ℕ} {m : ℕ} {trees up side out : List ℕ} (w : HeldStep sizes m trees up side out) where
  pub step_count : m ≡ length (take m sizes)
  step_count = sym (length-take-le m sizes w.within)

  pub step-held : HeldCanonical (take m sizes) trees up side out
  step-held =
      record {
        system = w.system;
        holds = w.holds;
        canonical_is = w.canonical_is;
        small = omega (arith, w.room, w.small);
        work = w.work;
      }

  pub step_room : SizesIn sizes m
  step_room =
      let S = w.system in
      let h = w.holds in
      record {
        within = w.within;
        positive = ap (each (ltb 0)) h.points_are ∙ positive (omega arith) (canonical-upward S w.canonical_is);
        room = omega (arith, ap sum h.points_are, total-map (λ s. s) points S, held-points h, w.room);
        small = w.small;
      }

  module _ {step same : System → Option System} {next : List ℕ → Option (List ℕ)} {filling : List ℕ → System} (p : Parts step same next filling)
      (r : Bool) (after : List ℕ) (f : (S : System) → Holds S (take m sizes) trees → Bumped (same S) r (take m sizes) after) where
    -- with the same sizes
    pub step_same : r ≡ true → (S : System) → Holds S (take m sizes) trees → SteppedTo (step S) (Some m) sizes after
    step_same e S h =
        let b = bumped-some (same S) (take m sizes) after (rw e at (f S h)) in
        let n : m ≡ length b.0 = step_count ∙ held-count b.2 in
        rw (p.within S b.0 b.1)
        (ap Some n, record { points_are = ap (λ j. take j sizes) (sym n) ∙ b.2.points_are; flat_is = b.2.flat_is })

    module _ (e : r ≡ false) (sizes' : List ℕ) where
      -- there is no other size list
      pub step-ends : NextIn (next (take m sizes)) None sizes' → (trees' : List ℕ) → (S : System) → Holds S (take m sizes) trees
          → SteppedTo (step S) None sizes' trees'
      step-ends q trees' S h =
          let b = bumped_none (same S) (take m sizes) after (rw e at (f S h)) in
          let n : next (map points S) ≡ none = ap next (sym h.points_are) ∙ next_last (next (take m sizes)) sizes' q in
          rw (p.over S b n) refl

      -- there is one
      pub step_other : (k : ℕ) → NextIn (next (take m sizes)) (Some k) sizes' → length after ≡ length trees → Other w step filling k sizes' after
      step_other k q len =
          let n = next-some (next (take m sizes)) k sizes' q in
          record {
            gone = λ S h. p.beyond S (take k sizes') (bumped_none (same S) (take m sizes) after (rw e at (f S h))) (ap next (sym h.points_are) ∙ n.0);
            few = n.1;
            long = len;
          }

  -- what fills it
  module _ {step same : System → Option System} {next : List ℕ → Option (List ℕ)} {filling : List ℕ → System} (p : Parts step same next filling)
      {k : ℕ} {sizes' after : List ℕ} (o : Other w step filling k sizes' after) where
    pub other-count : k ≡ length (take k sizes')
    other-count = sym (length-take-le k sizes' o.few)

    -- the other sizes have as many points in all
    pub other-sum : sum (take k sizes') ≡ length after
    other-sum =
        let T = filling (take k sizes') in
        ap sum (sym (p.fits (take k sizes'))) ∙ total-map (λ s. s) points T
        ∙ (p.keeps w.system T w.canonical_is (o.gone w.system w.holds)).1 ∙ sym (held-points w.holds) ∙ sym o.long

    pub step-filled : (trees' : List ℕ) → trees' ≡ gather flat (filling (take k sizes'))
        → (S : System) → Holds S (take m sizes) trees → SteppedTo (step S) (Some k) sizes' trees'
    step-filled trees' t S h =
        let T = filling (take k sizes') in
        let count : k ≡ length T = other-count ∙ ap length (sym (p.fits (take k sizes'))) ∙ length-map T points in
        rw (o.gone S h)
        (ap Some count, record { points_are = ap (λ j. take j sizes') (sym count) ∙ sym (p.fits (take k sizes')); flat_is = t })
