-- The code beside another in the list, after it or before it, is put into the lent output, or there is none.
use mathlib.Core.Path.{◌≡◌, refl, sym}
use mathlib.Core.Bool.{true}
use mathlib.Core.List.{List}
use mathlib.Core.Option.{Option, none, some}
use Rattle.std.specs.Prelude.{Some, None, Option as Number}
use Prim.Native.Nat.{ℕ, ◌≤◌}
use native.Mathlib.Omega.{arith}
use lib.ListN.{length, take, length-take}
use Rattle.lists.specs.Select.{next, previous}
use Rattle.patterns.specs.System.{System, weight, codes, canonical, compare_system}
use Rattle.patterns.specs.Written.{written}
use Rattle.patterns.specs.Replies.{Answer}
use Rattle.patterns.specs.Entry.{Outcome, gives, answered, filled, listed, Replied}
use Rattle.patterns.specs.Predecessor.{foregoing}
use Rattle.system_theory.specs.Step.{step}
use Rattle.system_theory.specs.StepBack.{step_back_of}
use Rattle.system_theory.proofs.Step.{step_is, step_keeps}
use Rattle.system_theory.proofs.StepBack.{step_back_of-is, step_back_of-keeps}
use Rattle.memory.specs.Memory.{Holds, HeldSystem}
use Rattle.memory.proofs.Parts.{held-points}
use Rattle.writing.proofs.CanonicalHeld.{canonical-held}
use Rattle.acceptance.proofs.Taken.{Taken, taken-count}
use Rattle.stepping.specs.HeldSteps.{HeldNext, SteppedTo}
use Rattle.stepping.proofs.Following.{Keeps, held_next, next-canonical, step-over, step-found, next-again}

-- The step `walk` leads to what stands beside a system in the list, and `told` is what an entry finds of that: its code, or an end that keeps the output.
pub record Tells (walk beside : System → Option System) (told : Option System → Outcome ℕ) : Type 0 where
  pub keeps : Keeps walk
  pub is : (S : System) → canonical S ≡ true → beside S ≡ walk S
  pub some_told : (T : System) → told (some T) ≡ gives (written T)
  pub none_told : (before : List ℕ) → filled (told none) before ≡ before

pub next-told : Tells step (λ S. next compare_system S (codes (weight S))) listed
next-told = record { keeps = step_keeps; is = step_is; some_told = λ T. refl; none_told = λ before. refl }

pub previous-told : Tells step_back_of (λ S. previous compare_system S (codes (weight S))) foregoing
previous-told = record { keeps = step_back_of-keeps; is = step_back_of-is; some_told = λ T. refl; none_told = λ before. refl }

-- After such a step in memory.
module _ {walk beside : System → Option System} {told : Option System → Outcome ℕ} (g : Tells walk beside told)
    {sizes : List ℕ} {m : ℕ} {trees : List ℕ} (h : HeldNext sizes m trees)
    (r : Number ℕ) (sizes' trees' : List ℕ) (f : (S : System) → Holds S (take m sizes) trees → SteppedTo (walk S) r sizes' trees') where
  -- there is none
  pub beside_none : r ≡ None → (before : List ℕ) (S : System) → Holds S (take m sizes) trees
      → Replied (told (beside S)) before (answered (told none) before) before
  beside_none e before S i =
      rw (g.is S (next-canonical h S i), step-over walk r sizes' trees' f e S i) (record { reply = refl; output = sym (g.none_told before) })

  module _ (k : ℕ) (e : r ≡ Some k) where
    -- the memory holds the system
    pub beside-held : length sizes' ≡ length sizes → HeldSystem (take k sizes') trees'
    beside-held s =
        let n = next-again g.keeps h r sizes' trees' f k e s in
        canonical-held n.holds n.canonical_is (omega (arith, held-points n.holds, n.small))

    pub beside-within : length sizes' ≡ length sizes → k ≤ length sizes'
    beside-within s = (next-again g.keeps h r sizes' trees' f k e s).within

    -- and its code was put
    pub beside-put : {before after : List ℕ} {a : Answer}
        → ((T : System) → Holds T (take k sizes') trees' → Replied (gives (written T)) before a after)
        → (S : System) → Holds S (take m sizes) trees → Replied (told (beside S)) before a after
    beside-put p S i =
        let t = step-found walk r sizes' trees' f k e S i in
        rw (g.is S (next-canonical h S i), t.1, g.some_told t.0) (p t.0 t.2)

-- a code that was accepted can be stepped from
pub taken_next : {b sizes trees : List ℕ} {m n : ℕ} → Taken b sizes trees m n → length sizes ≡ 200 → length trees ≡ 200 → HeldNext sizes m (take n trees)
taken_next {trees = trees} {n = n} t u v = held_next t.holds t.canonical_is (taken-count t) u (omega (arith, length-take n trees))
