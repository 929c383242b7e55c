-- Where the components of a system in memory begin in its written code: one component after another, as far as their bytes reach.
use mathlib.Core.Path.{◌≡◌, refl, ap, sym, ◌∙◌}
use mathlib.Core.List.{List, []}
use Prim.Native.Nat.{ℕ, ◌+◌, ◌-◌, ◌≤◌, ◌<◌}
use native.Mathlib.Omega.{arith}
use lib.ListN.{length, take, drop, get_or, length-take}
use Rattle.std.proofs.lemmas.List.{get_or-take}
use Rattle.patterns.specs.Component.{Component, flat}
use Rattle.patterns.specs.System.{System}
use Rattle.patterns.specs.Written.{component_numbers, write_number, bytes, written}
use Rattle.patterns.proofs.Trees.{length-flat}
use Rattle.memory.specs.Memory.{Holds, HeldSystem}
use Rattle.memory.proofs.Parts.{part-fits, held-count, held-points, held_fits, held-part, held_next}
use Rattle.form_theory.proofs.Numbers.{bytes-length}
use Rattle.form_theory.proofs.Stretches.{stretch-end, start_first, start-next, start-last, start-within}
use Rattle.form_theory.proofs.WrittenShort.{written-short}
use Rattle.writing.specs.Writable.{HeldComponent}
use Rattle.writing.specs.Passed.{Passed}

-- One component: the number of its trees, then their codes.
pub codes-bound : {s : List ℕ} → HeldComponent s → length (bytes s) ≤ 400
codes-bound {s} w = omega (arith, bytes-length s, w.small)

-- one of the first sizes
pub size-at : (p : ℕ) (sizes : List ℕ) (i x : ℕ) → i < length (take p sizes) → x ≡ get_or (take p sizes) i 0 → (i < length sizes) × (x ≡ get_or sizes i 0)
size-at p sizes i x h e = (omega (arith, length-take p sizes), e ∙ get_or-take p sizes i 0 (omega (arith, length-take p sizes)))

-- The components that are passed.
module _ {sizes trees : List ℕ} (w : HeldSystem sizes trees) where
  pub passed_none : (n m : ℕ) → n ≡ length (write_number (length trees)) → m ≡ length (write_number (length sizes))
      → (S : System) → Holds S sizes trees → Passed S 0 0 (n + m)
  passed_none n m p q S h =
      record { place = refl; begins = rw (p, q, held-points h, held-count h) (sym (start_first S)) }

  -- no component begins past 804 bytes
  pub begin-bound : {i from start : ℕ} → ((S : System) → Holds S sizes trees → Passed S i from start) → start ≤ 804
  begin-bound {i} f =
      let S = w.system in
      omega (arith, (f S w.holds).begins, start-within S i, written-short S w.each_nonempty w.small)

  module _ {i from start : ℕ} (f : (S : System) → Holds S sizes trees → Passed S i from start) (k : i < length sizes) where
    -- the trees of the next component
    abbrev part : List ℕ
    part = take (from + get_or sizes i 0 - from) (drop from trees)

    inside : (S : System) → Holds S sizes trees → i < length S
    inside S h = omega (arith, held-count h)

    pub part-is-flat : (S : System) → Holds S sizes trees → part ≡ flat (get_or S i [])
    part-is-flat S h = held-part h i from (from + get_or sizes i 0) k (f S h).place refl

    pub next_fits : from + get_or sizes i 0 ≤ length trees
    next_fits = held_fits w.holds i from k (f w.system w.holds).place

    pub next-held : HeldComponent part
    next-held =
        let S = w.system in
        let flat_is = part-is-flat S w.holds in
        record {
          trees = get_or S i [];
          is = flat_is;
          small = omega (arith, ap length flat_is, length-flat (get_or S i []), part-fits S i (inside S w.holds), w.small);
        }

    module _ (long : ℕ) (p : (c : Component) → part ≡ flat c → long ≡ length (bytes (component_numbers c))) where
      pub passed-next : (S : System) → Holds S sizes trees → Passed S (i + 1) (from + get_or sizes i 0) (start + long)
      passed-next S h =
          record {
            place = held_next h i from (from + get_or sizes i 0) k (f S h).place refl;
            begins = omega (arith, (f S h).begins, start-next S i (inside S h), stretch-end S i (inside S h), p (get_or S i []) (part-is-flat S h));
          }

      pub next-bound : start + long ≤ 804
      next-bound = begin-bound passed-next

-- behind the last component the code ends
pub length_found : {sizes trees : List ℕ} {from start : ℕ} → ((S : System) → Holds S sizes trees → Passed S (length sizes) from start)
    → (S : System) → Holds S sizes trees → start ≡ length (written S)
length_found {sizes} f S h = (f S h).begins ∙ start-last S (length sizes) (omega (arith, held-count h))
