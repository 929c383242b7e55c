-- A whole code, by its first numbers: n, m, the components, and what is left after them.
use Rattle.std.specs.Prelude.{Result as Reply, Ok, Err}
use mathlib.Core.Path.{◌≡◌, refl, ap, ap₂, sym, ◌∙◌}
use mathlib.Core.Bool.{◌&&◌}
use mathlib.Core.List.{List, [], ◌∷◌}
use Prim.Native.Nat.{ℕ, suc, ◌+◌, ◌≤◌, ◌<◌}
use native.Mathlib.Omega.{arith}
use lib.Dec.{ltb, eqb}
use lib.ListN.{length, drop, get_or}
use borrow.Author.Tests.{lt-ltb, le-ltb, ne_eqb, eqb-true, ltb-true}
use Rattle.lists.proofs.Tests.{by-test, and-true, clash}
use Rattle.patterns.specs.declared.Refusal.{Refusal}
use Rattle.patterns.specs.declared.Refusal.TheVariants.{Count, Truncated, Sizes, Trailing}
use Rattle.patterns.specs.System.{System, weight}
use Rattle.patterns.specs.Reading.{Result, done, fault, and_then, read_components}
use Rattle.reading.specs.Shape.{acceptance, AcceptedInto}
use Rattle.component_reading.specs.ReadComponents.{walked_system, ReadInto}
use Rattle.form_theory.proofs.ReadFrom.{components-read}
use Rattle.reading.proofs.KeptShape.{all_used, kept_shape}

-- s has the first of `count` numbers
module _ (count : ℕ) where
  -- no component and some points: the components are refused anyway
  kept-components : (n m : ℕ) (s : List ℕ) → n ≤ 200 → m ≤ n
      → kept_shape count (n ∷ m ∷ s) ≡ and_then (read_components m n s) (λ S. all_used (suc (suc (length S + weight S))) count S)
  unfolding kept_shape read_components
  kept-components n m s f h =
      by-test (eqb m 0 && ltb 0 n)
      (λ e.
      let b = and-true (eqb m 0) (ltb 0 n) e in
      let z : m ≡ 0 = eqb-true m 0 b.0 in
      let p : 0 < n = ltb-true 0 n b.1 in
      rw (le-ltb 200 n f, le-ltb n m h, e, z, ne_eqb n 0 (λ q. omega arith)))
      (λ e. rw (le-ltb 200 n f, le-ltb n m h, e))

  pub whole-empty : (s : List ℕ) → length s ≡ 0 → kept_shape count s ≡ fault Truncated
  unfolding kept_shape
  whole-empty [] h = refl
  whole-empty (n ∷ s) h = absurd (omega arith)

  pub whole-large : (s : List ℕ) → 0 < length s → 200 < get_or s 0 0 → kept_shape count s ≡ fault Count
  unfolding kept_shape
  whole-large [] p h = absurd (omega arith)
  whole-large (n ∷ []) p h = rw (lt-ltb 200 n h)
  whole-large (n ∷ m ∷ s) p h = rw (lt-ltb 200 n h)

  pub whole-ended : (s : List ℕ) → length s ≡ 1 → get_or s 0 0 ≤ 200 → kept_shape count s ≡ fault Truncated
  unfolding kept_shape
  whole-ended [] p h = absurd (omega arith)
  whole-ended (n ∷ []) p h = rw (le-ltb 200 n h)
  whole-ended (n ∷ m ∷ s) p h = absurd (omega arith)

  pub whole-many : (s : List ℕ) → 1 < length s → get_or s 0 0 ≤ 200 → get_or s 0 0 < get_or s 1 0 → kept_shape count s ≡ fault Sizes
  unfolding kept_shape
  whole-many [] p h l = absurd (omega arith)
  whole-many (n ∷ []) p h l = absurd (omega arith)
  whole-many (n ∷ m ∷ s) p h l = rw (le-ltb 200 n h, lt-ltb n m l)

  -- n at most 200 and m at most n: the components decide, and what is left after them
  whole-body : (s : List ℕ) → 1 < length s → get_or s 0 0 ≤ 200 → get_or s 1 0 ≤ get_or s 0 0
      → kept_shape count s ≡ and_then (read_components (get_or s 1 0) (get_or s 0 0) (drop 2 s)) (λ S. all_used (suc (suc (length S + weight S))) count S)
  whole-body [] p h l = absurd (omega arith)
  whole-body (n ∷ []) p h l = absurd (omega arith)
  whole-body (n ∷ m ∷ s) p h l = kept-components n m s h l

  module _ (s sizes trees : List ℕ) (r : Reply ℕ Refusal) (given : ReadInto 2 (read_components (get_or s 1 0) (get_or s 0 0) (drop 2 s)) r sizes trees)
      (p : 1 < length s) (h : get_or s 0 0 ≤ 200) (few : get_or s 1 0 ≤ get_or s 0 0) where
    -- a component is refused
    pub whole-refused : (c : Refusal) → r ≡ Err c → kept_shape count s ≡ fault c
    whole-refused c q = whole-body s p h few ∙ of (read_components (get_or s 1 0) (get_or s 0 0) (drop 2 s)) _ (sym q ∙ given.reply)
      where
        of : (o : Result System) (f : System → Result System) → Err c ≡ walked_system 2 o → and_then o f ≡ fault c
        of (done S) f z = clash cc
        of (fault d) f z = let y : c ≡ d = cc in ap fault (sym y)

    module _ (next : ℕ) (q : r ≡ Ok next) where
      -- what was read: a system of m components and n points, up to place `next`
      read_whole : (S : System) × (read_components (get_or s 1 0) (get_or s 0 0) (drop 2 s) ≡ done S) × (length S ≡ get_or s 1 0) × (weight S ≡ get_or s 0 0)
          × (next ≡ 2 + (length S + weight S))
      read_whole = of (read_components (get_or s 1 0) (get_or s 0 0) (drop 2 s)) refl (sym q ∙ given.reply)
        where
          of : (o : Result System) → read_components (get_or s 1 0) (get_or s 0 0) (drop 2 s) ≡ o → Ok next ≡ walked_system 2 o
              → (S : System) × (read_components (get_or s 1 0) (get_or s 0 0) (drop 2 s) ≡ done S) × (length S ≡ get_or s 1 0) × (weight S ≡ get_or s 0 0)
              × (next ≡ 2 + (length S + weight S))
          of (done S) f z = let g = components-read (get_or s 1 0) (get_or s 0 0) (drop 2 s) S f in (S, f, g.1, g.2, cc)
          of (fault d) f z = clash cc

      whole-used : kept_shape count s ≡ all_used (suc (suc (length read_whole.0 + weight read_whole.0))) count read_whole.0
      whole-used = whole-body s p h few ∙ ap (λ o. and_then o (λ S. all_used (suc (suc (length S + weight S))) count S)) read_whole.1

      -- numbers are left after the components
      pub whole-trailing : next < count → kept_shape count s ≡ fault Trailing
      whole-trailing l =
          let S = read_whole.0 in
          whole-used ∙ rw (lt-ltb (suc (suc (length S + weight S))) count (omega (arith, read_whole.4)))

      -- no number is left
      pub whole-done : count ≤ next → AcceptedInto (kept_shape count s) (Ok record { components = get_or s 1 0; points = get_or s 0 0 }) sizes trees
      whole-done l =
          let g = read_whole in
          let S = g.0 in
          let o : kept_shape count s ≡ done S = whole-used ∙ rw (le-ltb (suc (suc (length S + weight S))) count (omega (arith, g.4))) in
          record {
            reply = ap₂ (λ m n. Ok record { components = m; points = n }) (sym g.2) (sym g.3) ∙ ap acceptance (sym o);
            held = λ R z. given.held R (g.1 ∙ sym o ∙ z);
          }

-- a refusal, whatever the memory then holds
pub refused-into : (o : Result System) (c : Refusal) (sizes trees : List ℕ) → o ≡ fault c → AcceptedInto o (Err c) sizes trees
refused-into o c sizes trees e = record { reply = rw e; held = λ S z. clash cc }
