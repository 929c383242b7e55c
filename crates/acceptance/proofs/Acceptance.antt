-- A code that was read and then tested: what the two parts say of the whole.
use Rattle.std.specs.Prelude.{Result as Reply, Ok, Err}
use mathlib.Core.Path.{◌≡◌, refl, ap, ap₂, sym, ◌∙◌}
use mathlib.Core.Bool.{Bool, true, false, cond}
use mathlib.Core.List.{List}
use Prim.Native.Nat.{ℕ, ◌≤◌}
use native.Mathlib.Omega.{arith}
use lib.ListN.{length, take, length-take}
use Rattle.lists.specs.Select.{each}
use Rattle.lists.proofs.Tests.{clash}
use Rattle.patterns.specs.declared.Refusal.{Refusal}
use Rattle.patterns.specs.declared.Refusal.TheVariants.{NotCanonical}
use Rattle.patterns.specs.Component.{nonempty}
use Rattle.patterns.specs.System.{System, weight, canonical}
use Rattle.patterns.specs.Reading.{Result, done, fault, and_then, accepted}
use Rattle.memory.specs.Memory.{Holds, HeldSystem}
use Rattle.reading.specs.declared.Accepted.{Accepted}
use Rattle.reading.specs.Shape.{code_shape, acceptance, AcceptedInto}
use Rattle.form_theory.proofs.Results.{good-done}
use Rattle.reading.proofs.Sound.{code-sound}
use Rattle.reading.proofs.Checked.{checked, accepted-shape}
use Rattle.reading.proofs.Whole.{refused-into}
use Rattle.memory.proofs.Parts.{held-count, held-points}

-- The system that a reply tells of.
abbrev Told : Result System → Accepted → List ℕ → List ℕ → Type 0
Told o k sizes trees =
    (S : System) × (o ≡ done S) × (length S ≡ k.components) × (weight S ≡ k.points) × Holds S (take k.components sizes) (take k.points trees)

told : (o : Result System) (r : Reply Accepted Refusal) (k : Accepted) (sizes trees : List ℕ) → AcceptedInto o r sizes trees → r ≡ Ok k → Told o k sizes trees
told (done S) r k sizes trees a e =
    let q = sym e ∙ a.reply in
    let same : k ≡ record { components = length S; points = weight S } = cc in
    let u : k.components ≡ length S = ap (λ (g : Accepted). g.components) same in
    let v : k.points ≡ weight S = ap (λ (g : Accepted). g.points) same in
    (S, refl, sym u, sym v, rw (u, v) (a.held S refl))
told (fault c) r k sizes trees a e = let q = sym e ∙ a.reply in clash cc

pub told-refused : (o : Result System) (c : Refusal) → Err c ≡ acceptance o → o ≡ fault c
told-refused (done S) c q = clash cc
told-refused (fault d) c q = let z : c ≡ d = cc in ap fault (sym z)

module _ (code : List ℕ) (r : Reply Accepted Refusal) (sizes trees : List ℕ) (a : AcceptedInto (code_shape code) r sizes trees) where
  -- refused for its shape
  pub shape-refused : (c : Refusal) → r ≡ Err c → AcceptedInto (accepted code) (Err c) sizes trees
  shape-refused c e =
      refused-into (accepted code) c sizes trees (accepted-shape code ∙ ap (λ o. and_then o checked) (told-refused (code_shape code) c (sym e ∙ a.reply)))

  module _ (k : Accepted) (e : r ≡ Ok k) where
    system-told : Told (code_shape code) k sizes trees
    system-told = told (code_shape code) r k sizes trees a e

    -- the memory holds a system, in its first places
    pub shape-held : HeldSystem (take k.components sizes) (take k.points trees)
    shape-held =
        let t = system-told in
        let g = good-done (λ S. (each nonempty S ≡ true) × (weight S ≤ 200)) (code_shape code) t.0 t.1 (code-sound code) in
        record { system = t.0; holds = t.4; each_nonempty = g.0; small = g.1 }

    pub shape-within : (k.components ≤ length sizes) × (k.points ≤ length trees)
    shape-within =
        let t = system-told in (
          omega (arith, held-count t.4, length-take k.components sizes, t.2),
          omega (arith, held-points t.4, length-take k.points trees, t.3),
        )

    module _ (b : Bool) (f : (S : System) → Holds S (take k.components sizes) (take k.points trees) → b ≡ canonical S) where
      tested : accepted code ≡ cond b (done system-told.0) (fault NotCanonical)
      unfolding checked
      tested =
          let t = system-told in
          accepted-shape code ∙ ap (λ o. and_then o checked) t.1 ∙ ap (λ d. cond d (done t.0) (fault NotCanonical)) (sym (f t.0 t.4))

      -- not canonical
      pub shape-unordered : b ≡ false → AcceptedInto (accepted code) (Err NotCanonical) sizes trees
      shape-unordered q = refused-into (accepted code) NotCanonical sizes trees (tested ∙ rw q)

      -- canonical
      pub shape-accepted : b ≡ true → AcceptedInto (accepted code) (Ok k) sizes trees
      shape-accepted q =
          let t = system-told in
          let o : accepted code ≡ done t.0 = tested ∙ rw q in
          record {
            reply = ap₂ (λ i j. Ok record { components = i; points = j }) (sym t.2) (sym t.3) ∙ ap acceptance (sym o);
            held = λ S z. a.held S (t.1 ∙ sym o ∙ z);
          }
