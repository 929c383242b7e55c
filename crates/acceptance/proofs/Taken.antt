-- What the reply to a written code says of it, and of the memory that it was read into.
use Rattle.std.specs.Prelude.{Result as Reply, Ok, Err}
use mathlib.Core.Path.{◌≡◌, refl, ap, sym, ◌∙◌}
use mathlib.Core.Bool.{true}
use mathlib.Core.List.{List}
use Prim.Native.Nat.{ℕ, ◌≤◌}
use native.Mathlib.Omega.{arith}
use lib.ListN.{length, take, length-take}
use Rattle.lists.proofs.Tests.{clash}
use Rattle.patterns.specs.declared.Refusal.{Refusal}
use Rattle.patterns.specs.System.{System, weight, canonical}
use Rattle.patterns.specs.Reading.{Result, done, fault, accepted}
use Rattle.patterns.specs.Replies.{Answer, length_is, refused, number_of}
use Rattle.patterns.specs.Entry.{Outcome, outcome, Replied, accept_of}
use Rattle.reading.specs.declared.Accepted.{Accepted}
use Rattle.memory.specs.Memory.{Holds, HeldSystem}
use Rattle.reading.specs.Shape.{acceptance, AcceptedInto}
use Rattle.form_theory.proofs.Readback.{canonical-nonempty}
use Rattle.form_theory.proofs.WrittenBack.{accepted-canonical}
use Rattle.memory.proofs.Parts.{held-count, held-points}
use Rattle.acceptance.proofs.Acceptance.{told-refused}

-- The bytes b were accepted, and the first m and n places of the memory hold their system.
pub record Taken (b sizes trees : List ℕ) (m n : ℕ) : Type 0 where
  pub system : System
  pub is : accepted b ≡ done system
  pub canonical_is : canonical system ≡ true
  pub small : weight system ≤ 200
  pub count : length system ≡ m
  pub points_are : weight system ≡ n
  pub holds : Holds system (take m sizes) (take n trees)

module _ (b : List ℕ) {r : Reply Accepted Refusal} {sizes trees : List ℕ} (a : AcceptedInto (accepted b) r sizes trees) where
  -- the bytes were refused
  pub code-refused : (c : Refusal) → r ≡ Err c → accepted b ≡ fault c
  code-refused c e = told-refused (accepted b) c (sym e ∙ a.reply)

  -- or accepted
  pub code-taken : (k : Accepted) → r ≡ Ok k → Taken b sizes trees k.components k.points
  code-taken k e = of (accepted b) refl (sym e ∙ a.reply)
    where
      of : (o : Result System) → accepted b ≡ o → Ok k ≡ acceptance o → Taken b sizes trees k.components k.points
      of (done S) p q =
          let same : k ≡ record { components = length S; points = weight S } = cc in
          let u : k.components ≡ length S = ap (λ (a : Accepted). a.components) same in
          let v : k.points ≡ weight S = ap (λ (a : Accepted). a.points) same in
          let g = accepted-canonical b S p in
          record { system = S; is = p; canonical_is = g.0; small = g.1; count = sym u; points_are = sym v; holds = rw (u, v) (a.held S p) }
      of (fault c) p q = clash cc

-- the reply of acceptance
pub accept-refused : (b : List ℕ) (c : Refusal) → accepted b ≡ fault c → refused (number_of c) ≡ accept_of b
unfolding accept_of
accept-refused b c e = rw e

module _ {b sizes trees : List ℕ} {m n : ℕ} (t : Taken b sizes trees m n) where
  pub accept-points : length_is n ≡ accept_of b
  unfolding accept_of
  accept-points = rw t.is (ap length_is (sym t.points_are))

  -- the reply of an entry that finds something of the system
  pub outcome-taken : {A : Type 0} {f : System → Outcome A} {before after : List A} {a : Answer}
      → ((S : System) → Holds S (take m sizes) (take n trees) → Replied (f S) before a after) → Replied (outcome (accepted b) f) before a after
  outcome-taken p = rw t.is (p t.system t.holds)

  pub taken-held : HeldSystem (take m sizes) (take n trees)
  taken-held =
      record { system = t.system; holds = t.holds; each_nonempty = canonical-nonempty t.system t.canonical_is; small = t.small }

  pub taken-count : m ≤ length sizes
  taken-count = omega (arith, held-count t.holds, length-take m sizes, t.count)

  pub taken-points : n ≤ length trees
  taken-points = omega (arith, held-points t.holds, length-take n trees, t.points_are)
